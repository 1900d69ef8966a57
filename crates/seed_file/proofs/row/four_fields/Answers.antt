use Rattle.std.proofs.Common.{rules, ◌≡◌, length}
use Rattle.csv.specs.Records.{fields_of}
use Rattle.seed_file.proofs.Shape.{four_as}
use Rattle.seed_file.proofs.row.four_fields.Goals as goal

pub returns-then-len-eq4-clause-some : goal.returns-then-len-eq4-clause-some
returns-then-len-eq4-clause-some c =
    let count : length (fields_of c.args.fields.now) ≡ 4 = search rules in
    four_as (fields_of c.args.fields.now) _ _ _ _ count c.field.ensures c.field-then-len-eq4.ensures c.field-then-len-eq4-2.ensures c.field-then-len-eq4-3.ensures
