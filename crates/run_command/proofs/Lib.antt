mod ApartLaws
mod JobLaws
mod KeptLaws
mod Said
