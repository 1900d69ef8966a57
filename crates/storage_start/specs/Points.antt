-- The point of an edited picture.
use Rattle.std.specs.Prelude.{Bool, ◌&&◌, ◌==◌, nat_lt}
use Rattle.y2k_base.specs.declared.picture.Run.{Run}

abbrev pub begins_fraction : Run → Bool
begins_fraction run = run.symbol == 46 && nat_lt 0 run.count
