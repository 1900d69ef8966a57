-- What stands against the PICTURE that an item has after conversion. One that is as it was read has at most 18 digits and 30
-- characters.
use Rattle.std.specs.Prelude.{ℕ, nat_lt, List, [], ◌∷◌, ◌++◌, length, Option, Some, None, if◌then◌else◌}
use Rattle.y2k_base.specs.declared.picture.Picture.{Picture}
use Rattle.y2k_base.specs.declared.picture.Run.{Run}
use Rattle.y2k_base.specs.declared.word.Origin.{Origin}
use Rattle.data_layout.specs.declared.item.Item.{Item}
use Rattle.picture.specs.Places.{places, digit_count}
use Rattle.picture.specs.Printing.{printed}
use Rattle.picture_images.specs.Images.{picture_image}
use Rattle.window_modes.specs.declared.modes.YearMode.{YearMode}
use Rattle.plan_limits.specs.declared.limit.Limit.{Limit}
use Rattle.plan_limits.specs.declared.limit.LimitKind.{LimitKind}
use Rattle.plan_limits.specs.declared.limit.LimitKind.TheVariants as limits
use Rattle.plan_limits.specs.Limits.{number_limit}

-- a number that passes its bound
abbrev pub limit_above : LimitKind → Origin → ℕ → ℕ → List Limit
limit_above kind at most number = if nat_lt most number then number_limit kind at number ∷ [] else []

-- more than 18 digits, and more than 30 characters
abbrev pub runs_limits : Origin → List Run → List Limit
runs_limits at runs =
    limit_above limits.TooManyDigits at 18 (digit_count (places runs)) ++ limit_above limits.PictureFull at 30 (length (printed runs))

abbrev pub image_limits : Origin → Option Picture → List Limit
image_limits at None = []
image_limits at (Some image) = runs_limits at image.runs

abbrev pub picture_limits : List YearMode → Origin → Item → List Limit
picture_limits modes at item = image_limits at (picture_image modes item)
