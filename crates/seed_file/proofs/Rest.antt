-- What the rows after those that were read are, all are.
use Rattle.std.proofs.Common.{◌≡◌, List, [], ◌∷◌, ◌++◌, map, Some, inl, inr, refl, sym, subst, append_assoc}
use Rattle.std.proofs.lemmas.List.{append-nil}
use Rattle.csv.specs.Records.{Row, fields_of}
use Rattle.data_layout.specs.declared.portfolio.Portfolio.{Portfolio}
use Rattle.year_labels.specs.declared.label.Seed.{Seed}
use Rattle.seed_file.specs.Seeds.{AreSeeds, IsAdded, IsFaultOfRow, IsFaultOfRows, IsFirstFault, seeds_of, with_seeds}
use Rattle.seed_file.specs.Rows.{IsRow}
use Rattle.seed_file.specs.declared.file.Found.{Found}
use Rattle.seed_file.specs.declared.row.SeedRow.{SeedRow}
use Rattle.seed_file.specs.declared.file.SeedFault.{SeedFault}
use Rattle.seed_file.specs.declared.file.SeedFault.TheVariants as fault

pub record Goes (p : Portfolio) (records : List Row) (now : Found) (rest : List Row) : Type 0 where
  pub seeds : (more : List Seed) → AreSeeds p now.number (map fields_of rest) more → AreSeeds p 2 (map fields_of records) (now.seeds ++ more)
  pub fault : (f : SeedFault) → IsFirstFault p now.number (map fields_of rest) f → IsFirstFault p 2 (map fields_of records) f

module _ (p : Portfolio) (records : List Row) where
  goes_by : (now : Found) (front : List Seed) (row : Row) (rest : List Row) (r : SeedRow) → IsRow (fields_of row) r → seeds_of p now.number r ≡ Some front
      → Goes p records now (row ∷ rest) → Goes p records (with_seeds now front) rest
  goes_by now front row rest r shape has g = record {
    seeds = λ more h.
        subst (AreSeeds p 2 (map fields_of records)) (sym (append_assoc now.seeds front more))
        (g.seeds (front ++ more) (r, front, more, shape, has, h, refl));
    fault = λ f h. g.fault f (inr (r, front, shape, has, h));
  }

  goes_on : (now next : Found) (row : Row) (rest : List Row) → IsAdded p (fields_of row) now next
      → Goes p records now (row ∷ rest) → Goes p records next rest
  goes_on now next row rest (r, shape, added) g =
      subst (λ (x : Found). Goes p records x rest) (sym added.2) (goes_by now added.0 row rest r shape added.1 g)

  pub goes_to : (now next : Found) (rest : List Row) (row : Row) (more : List Row) → rest ≡ row ∷ more → IsAdded p (fields_of row) now next
      → Goes p records now rest → Goes p records next more
  goes_to now next rest row more e added g = goes_on now next row more added (subst (Goes p records now) e g)

  pub seeds_read : (now : Found) (rest : List Row) → rest ≡ [] → Goes p records now rest → AreSeeds p 2 (map fields_of records) now.seeds
  seeds_read now rest e g =
      let end : Goes p records now [] = subst (Goes p records now) e g in
      subst (AreSeeds p 2 (map fields_of records)) (append-nil now.seeds) (end.seeds [] refl)

  fault_here : (now : Found) (row : Row) (more : List Row) (f : SeedFault)
      → Goes p records now (row ∷ more) → IsFaultOfRow p now.number (fields_of row) f → IsFaultOfRows p 2 (map fields_of records) f
  fault_here now row more (fault.RowShape n) g h = g.fault (fault.RowShape n) (inl h)
  fault_here now row more (fault.SeedUnknown n) g h = g.fault (fault.SeedUnknown n) (inl h)
  fault_here now row more fault.Memory g h = tt

  pub fault_read : (now : Found) (rest : List Row) (row : Row) (more : List Row) (f : SeedFault) → rest ≡ row ∷ more
      → Goes p records now rest → IsFaultOfRow p now.number (fields_of row) f → IsFaultOfRows p 2 (map fields_of records) f
  fault_read now rest row more f e g h = fault_here now row more f (subst (Goes p records now) e g) h
