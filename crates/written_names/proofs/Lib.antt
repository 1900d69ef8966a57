mod ClashLaws
mod ConversionLaws
