-- Files that are checked one after the other.
use Rattle.std.proofs.Common.{◌≡◌, ◌∙◌, inl, inr, ℕ, ◌≤◌, ◌-◌, List, [], ◌∷◌, ◌++◌, length, take, drop, get_or, arith, rules, ap, refl, sym, subst, Option, Some, None, IfSome}
use Rattle.std.proofs.Math.Seq.{take-length}
use Rattle.shelf.specs.Contents.{Files}
use Rattle.data_layout.specs.declared.portfolio.FileUse.{FileUse}
use Rattle.file_convert.specs.declared.cut.Cuts.{Cuts}
use Rattle.portfolio.specs.declared.manifest.Named.{Named}
use Rattle.data_conversion.specs.Checked.{AreFit, IsFit, IsFitOf, IsChecked, IsUnfit, IsUnfitAt, HasFault, HasDataFault, bytes_in}
use Rattle.data_conversion.specs.Numbers.{cuts_for}
use Rattle.data_conversion.specs.declared.fault.DataFault.{DataFault}
use Rattle.data_conversion.specs.declared.fault.DataFault.TheVariants as fault

-- where the files of the rest are fit all are, and a fault of theirs is one of all
pub record Goes (images : List Cuts) (files : List FileUse) (folder : List ℕ) (told : Option Files) (listed rest : List Named) : Type 0 where
  pub fit : IfSome told (λ (shelved : Files). AreFit images files folder shelved rest → AreFit images files folder shelved listed)
  pub faulty : (f : DataFault) → HasDataFault images files folder told rest f → HasDataFault images files folder told listed f

pub none_checked : (images : List Cuts) (files : List FileUse) (folder : List ℕ) (told : Option Files) (listed : List Named) → Goes images files folder told listed listed
none_checked images files folder None listed = record { fit = tt; faulty = λ f h. h }
none_checked images files folder (Some shelved) listed = record { fit = λ h. h; faulty = λ f h. h }

later_fault : (images : List Cuts) (files : List FileUse) (folder : List ℕ) (told : Option Files) (named : Named) (more : List Named) (f : DataFault)
    → IfSome told (λ (shelved : Files). IsFit images files folder shelved named)
    → HasDataFault images files folder told more f → HasDataFault images files folder told (named ∷ more) f
later_fault images files folder None named more (fault.TooLarge name) fit h = tt
later_fault images files folder (Some shelved) named more (fault.TooLarge name) fit h = inr (fit, h)
later_fault images files folder None named more (fault.Untame external row offset untame) fit h = tt
later_fault images files folder (Some shelved) named more (fault.Untame external row offset untame) fit h = inr (fit, h)
later_fault images files folder None named more (fault.PartialRecord external left) fit h = tt
later_fault images files folder (Some shelved) named more (fault.PartialRecord external left) fit h = inr (fit, h)
later_fault images files folder told named more (fault.Shelf name) fit h = inr h
later_fault images files folder told named more fault.Memory fit h = tt

first_fault : (images : List Cuts) (files : List FileUse) (folder : List ℕ) (told : Option Files) (named : Named) (more : List Named) (f : DataFault)
    → IsUnfit images files folder told named f → HasDataFault images files folder told (named ∷ more) f
first_fault images files folder None named more (fault.TooLarge name) h = tt
first_fault images files folder (Some shelved) named more (fault.TooLarge name) h = inl h
first_fault images files folder None named more (fault.Untame external row offset untame) h = tt
first_fault images files folder (Some shelved) named more (fault.Untame external row offset untame) h = inl h
first_fault images files folder None named more (fault.PartialRecord external left) h = tt
first_fault images files folder (Some shelved) named more (fault.PartialRecord external left) h = inl h
first_fault images files folder told named more (fault.Shelf name) h = inl h
first_fault images files folder told named more fault.Memory h = tt

both_fit : (images : List Cuts) (files : List FileUse) (folder : List ℕ) (told : Option Files) (listed : List Named) (named : Named) (more : List Named)
    → IfSome told (λ (shelved : Files). AreFit images files folder shelved (named ∷ more) → AreFit images files folder shelved listed)
    → IfSome told (λ (shelved : Files). IsFit images files folder shelved named)
    → IfSome told (λ (shelved : Files). AreFit images files folder shelved more → AreFit images files folder shelved listed)
both_fit images files folder None listed named more all one = tt
both_fit images files folder (Some shelved) listed named more all one = λ h. all (one, h)

pub one_checked : (images : List Cuts) (files : List FileUse) (folder : List ℕ) (told : Option Files) (listed rest : List Named) (named : Named) (more : List Named)
    → rest ≡ named ∷ more → Goes images files folder told listed rest → IsChecked images files folder told named
    → Goes images files folder told listed more
one_checked images files folder told listed rest named more is goes checked =
    let fit = checked.fit in
    let g = subst (λ (r : List Named). Goes images files folder told listed r) is goes in
    record {
      fit = both_fit images files folder told listed named more g.fit fit;
      faulty = λ f h. g.faulty f (later_fault images files folder told named more f fit h);
    }

pub one_faulty : (images : List Cuts) (files : List FileUse) (folder : List ℕ) (told : Option Files) (listed rest : List Named) (named : Named) (more : List Named) (f : DataFault)
    → rest ≡ named ∷ more → Goes images files folder told listed rest → IsUnfit images files folder told named f → HasDataFault images files folder told listed f
one_faulty images files folder told listed rest named more f is goes h =
    (subst (λ (r : List Named). Goes images files folder told listed r) is goes).faulty f (first_fault images files folder told named more f h)

all_fit : (images : List Cuts) (files : List FileUse) (folder : List ℕ) (told : Option Files) (listed : List Named)
    → IfSome told (λ (shelved : Files). AreFit images files folder shelved [] → AreFit images files folder shelved listed)
    → IfSome told (λ (shelved : Files). AreFit images files folder shelved listed)
all_fit images files folder None listed h = tt
all_fit images files folder (Some shelved) listed h = h tt

pub all_checked : (images : List Cuts) (files : List FileUse) (folder : List ℕ) (told : Option Files) (listed rest : List Named)
    → rest ≡ [] → Goes images files folder told listed rest → IfSome told (λ (shelved : Files). AreFit images files folder shelved listed)
all_checked images files folder told listed rest is goes =
    all_fit images files folder told listed (subst (λ (r : List Named). Goes images files folder told listed r) is goes).fit

fit_in : (images : List Cuts) (files : List FileUse) (folder : List ℕ) (told : Option Files) (named : Named) (cuts : Cuts) → cuts_for images files named.key ≡ Some cuts
    → IfSome told (λ (shelved : Files). IsFitOf cuts (bytes_in shelved folder named)) → IfSome told (λ (shelved : Files). IsFit images files folder shelved named)
fit_in images files folder None named cuts is h = tt
fit_in images files folder (Some shelved) named cuts is h = (cuts, is, h)

pub fit_of : (images : List Cuts) (files : List FileUse) (folder : List ℕ) (told : Option Files) (named : Named) (cuts : Cuts) → cuts_for images files named.key ≡ Some cuts
    → IfSome told (λ (shelved : Files). IsFitOf cuts (bytes_in shelved folder named)) → IsChecked images files folder told named
fit_of images files folder told named cuts is h = record { fit = fit_in images files folder told named cuts is h }

pub unfit_of : (images : List Cuts) (files : List FileUse) (folder : List ℕ) (told : Option Files) (named : Named) (cuts : Cuts) (f : DataFault) → cuts_for images files named.key ≡ Some cuts
    → IsUnfitAt cuts (folder ++ named.name) told named f → IsUnfit images files folder told named f
unfit_of images files folder None named cuts (fault.TooLarge name) is h = tt
unfit_of images files folder (Some shelved) named cuts (fault.TooLarge name) is (bytes, held, h) = (cuts, bytes, is, held, h)
unfit_of images files folder None named cuts (fault.Untame external row offset untame) is h = tt
unfit_of images files folder (Some shelved) named cuts (fault.Untame external row offset untame) is (bytes, held, h) = (cuts, bytes, is, held, h)
unfit_of images files folder None named cuts (fault.PartialRecord external left) is h = tt
unfit_of images files folder (Some shelved) named cuts (fault.PartialRecord external left) is (bytes, held, h) = (cuts, bytes, is, held, h)
unfit_of images files folder told named cuts (fault.Shelf name) is h = h
unfit_of images files folder told named cuts fault.Memory is h = tt

-- a list that isn't empty is its first item and the rest
pub front : (rest : List Named) (named : Named) → 1 ≤ length rest → named ≡ get_or rest 0 named → rest ≡ named ∷ take (length rest - 1) (drop 1 rest)
front [] named some is = absurd (omega (arith, some))
front (x ∷ xs) named some is =
    let here : get_or (x ∷ xs) 0 named ≡ x = search rules in
    let first : x ≡ named = sym (is ∙ here) in
    let count : length (x ∷ xs) - 1 ≡ length xs = omega arith in
    ap (λ (ys : List Named). x ∷ ys) (sym (ap (λ (n : ℕ). take n xs) count ∙ take-length xs))
    ∙ ap (λ (n : Named). n ∷ take (length (x ∷ xs) - 1) xs) first
