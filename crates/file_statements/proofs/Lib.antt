mod DoneLaws
mod CallLaws
