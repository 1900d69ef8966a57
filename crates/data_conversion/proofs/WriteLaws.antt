-- Files whose images are written one after the other.
use Rattle.std.proofs.Common.{◌≡◌, ◌≢◌, ◌∙◌, inl, inr, ℕ, ◌<◌, ◌+◌, ◌*◌, Bool, true, false, List, [], ◌∷◌, ◌++◌, length, Contains, arith, ap, refl, sym, subst, Option, Some, None, IfSome, unwrap_or}
use Rattle.std.proofs.lemmas.List.Elements.{Contains-append_right}
use Rattle.std.specs.Option.{option_map}
use Rattle.std.specs.FinMap.{get, insert}
use Rattle.shelf.specs.Contents.{Files, bytes_of}
use Rattle.shelf.specs.declared.errors.ShelfErr.{ShelfErr}
use Rattle.shelf.specs.declared.errors.ShelfErr.TheVariants as shelf_errors
use Rattle.data_layout.specs.declared.portfolio.FileUse.{FileUse}
use Rattle.file_convert.proofs.MapLemmas.{get-other}
use Rattle.file_convert.specs.Faults.{HasConvertFault, HasLeft, fault_of}
use Rattle.file_convert.specs.Files.{IsTameFile, converted, file_image, with_bytes}
use Rattle.file_convert.specs.declared.cut.Cuts.{Cuts}
use Rattle.file_convert.specs.declared.fault.ConvertFault.{ConvertFault}
use Rattle.file_convert.specs.declared.fault.ConvertFault.TheVariants as file
use Rattle.portfolio.specs.declared.manifest.Named.{Named}
use Rattle.written_names.specs.Clashes.{under}
use Rattle.data_conversion.specs.Checked.{bytes_in}
use Rattle.data_conversion.specs.Faults.{IsFileFault, IsShelfFault}
use Rattle.data_conversion.specs.Numbers.{cuts_for}
use Rattle.data_conversion.specs.Written as spec
use Rattle.data_conversion.specs.declared.fault.DataFault.{DataFault}
use Rattle.data_conversion.specs.declared.fault.DataFault.TheVariants as fault

-- where the rest is converted all is, and where the rest stops all does
pub record Goes (images : List Cuts) (files : List FileUse) (folder out : List ℕ) (first : Option Files) (listed rest : List Named) (told : Option Files) (count : ℕ) : Type 0 where
  pub done : (after : Option Files) (n : ℕ) → spec.IsConverted images files folder out rest told after n → spec.IsConverted images files folder out listed first after (count + n)
  pub stopped : (after : Option Files) (f : DataFault) → spec.HasStoppedIn images files folder out rest told after f → spec.HasStoppedIn images files folder out listed first after f

pub none_taken : (images : List Cuts) (files : List FileUse) (folder out : List ℕ) (told : Option Files) (listed : List Named) → Goes images files folder out told listed listed told 0
none_taken images files folder out told listed = record {
  done = λ after n h.
      let sum : n ≡ 0 + n = omega arith in
      subst (λ (k : ℕ). spec.IsConverted images files folder out listed told after k) sum h;
  stopped = λ after f h. h;
}

done_after : (images : List Cuts) (files : List FileUse) (folder out : List ℕ) (before : Option Files) (named : Named) (more : List Named) (there : Bool) (after : Option Files) (n : ℕ)
    → IfSome before (λ (shelved : Files). spec.IsTameIn images files folder named shelved)
    → IfSome before (λ (shelved : Files). spec.one_where there ≡ spec.one_if (bytes_in shelved folder named))
    → spec.IsConverted images files folder out more (option_map (spec.stepped images files folder out named) before) after n
    → spec.IsConverted images files folder out (named ∷ more) before after (spec.one_where there + n)
done_after images files folder out None named more there after n tame is h = h
done_after images files folder out (Some shelved) named more there after n tame is (ts, shelf, counted) =
    let rest : ℕ = spec.count_steps images files folder out more (spec.stepped images files folder out named shelved) in
    ((tame, ts), shelf, ap (λ (k : ℕ). k + n) is ∙ ap (λ (k : ℕ). spec.one_if (bytes_in shelved folder named) + k) counted)

pub one_taken : (images : List Cuts) (files : List FileUse) (folder out : List ℕ) (first : Option Files) (listed rest : List Named) (before after : Option Files) (count : ℕ) (named : Named) (more : List Named) (there : Bool) (next : ℕ)
    → rest ≡ named ∷ more → Goes images files folder out first listed rest before count → spec.IsTaken images files folder out named before after there
    → next ≡ count + spec.one_where there
    → Goes images files folder out first listed more after next
one_taken images files folder out first listed rest before after count named more there next is goes (tame, shelf, counted) sum =
    let g = subst (λ (r : List Named). Goes images files folder out first listed r before count) is goes in
    record {
      done = λ end n h.
          let h2 = subst (λ (t : Option Files). spec.IsConverted images files folder out more t end n) shelf h in
          let all = g.done end (spec.one_where there + n) (done_after images files folder out before named more there end n tame counted h2) in
          let sums : count + (spec.one_where there + n) ≡ next + n = omega (arith, sum) in
          subst (λ (k : ℕ). spec.IsConverted images files folder out listed first end k) sums all;
      stopped = λ end f h.
          let h2 = subst (λ (t : Option Files). spec.HasStoppedIn images files folder out more t end f) shelf h in
          g.stopped end f (inr (tame, h2));
    }

pub one_stopped : (images : List Cuts) (files : List FileUse) (folder out : List ℕ) (first : Option Files) (listed rest : List Named) (before after : Option Files) (count : ℕ) (named : Named) (more : List Named) (f : DataFault)
    → rest ≡ named ∷ more → Goes images files folder out first listed rest before count → spec.HasStoppedAt images files folder out named before after f
    → spec.HasStoppedIn images files folder out listed first after f
one_stopped images files folder out first listed rest before after count named more f is goes h =
    (subst (λ (r : List Named). Goes images files folder out first listed r before count) is goes).stopped after f (inl h)

-- want of memory before the first of them
pub at_once : (images : List Cuts) (files : List FileUse) (folder out : List ℕ) (listed : List Named) (before after : Option Files) (f : DataFault)
    → f ≡ fault.Memory → after ≡ before → spec.HasStoppedIn images files folder out listed before after f
at_once images files folder out [] before after f is same = (is, same)
at_once images files folder out (named ∷ ns) before after f is same = inl (inl (is, same))

-- want of memory after one of them
pub after_one : (images : List Cuts) (files : List FileUse) (folder out : List ℕ) (first : Option Files) (listed rest : List Named) (before after : Option Files) (count : ℕ) (named : Named) (more : List Named) (there : Bool) (f : DataFault)
    → rest ≡ named ∷ more → Goes images files folder out first listed rest before count → spec.IsTaken images files folder out named before after there
    → f ≡ fault.Memory
    → spec.HasStoppedIn images files folder out listed first after f
after_one images files folder out first listed rest before after count named more there f is goes taken memory =
    (one_taken images files folder out first listed rest before after count named more there (count + spec.one_where there) is goes taken refl).stopped after f
    (at_once images files folder out more after after f memory refl)

none_left : (images : List Cuts) (files : List FileUse) (folder out : List ℕ) (told : Option Files) → spec.IsConverted images files folder out [] told told 0
none_left images files folder out None = refl
none_left images files folder out (Some shelved) = (tt, refl, refl)

pub all_taken : (images : List Cuts) (files : List FileUse) (folder out : List ℕ) (first : Option Files) (listed rest : List Named) (told : Option Files) (count : ℕ)
    → rest ≡ [] → Goes images files folder out first listed rest told count → spec.IsConverted images files folder out listed first told count
all_taken images files folder out first listed rest told count is goes =
    let g = subst (λ (r : List Named). Goes images files folder out first listed r told count) is goes in
    let sum : count + 0 ≡ count = omega arith in
    subst (λ (k : ℕ). spec.IsConverted images files folder out listed first told k) sum (g.done told 0 (none_left images files folder out told))

-- one listed file by its years
tame_in : (images : List Cuts) (files : List FileUse) (folder : List ℕ) (told : Option Files) (named : Named) (cuts : Cuts) → cuts_for images files named.key ≡ Some cuts
    → IfSome told (λ (shelved : Files). spec.IsTameAt cuts (folder ++ named.name) shelved) → IfSome told (λ (shelved : Files). spec.IsTameIn images files folder named shelved)
tame_in images files folder None named cuts is h = tt
tame_in images files folder (Some shelved) named cuts is h = (cuts, is, h)

by_years : (images : List Cuts) (files : List FileUse) (folder out : List ℕ) (told : Option Files) (named : Named) (cuts : Cuts) → cuts_for images files named.key ≡ Some cuts
    → option_map (converted cuts (folder ++ named.name) (under out named.name)) told ≡ option_map (spec.stepped images files folder out named) told
by_years images files folder out None named cuts is = refl
by_years images files folder out (Some shelved) named cuts is =
    ap (λ (o : Option Cuts). Some (with_bytes (under out named.name) (spec.image_of o (bytes_in shelved folder named)) shelved)) (sym is)

pub taken_of : (images : List Cuts) (files : List FileUse) (folder out : List ℕ) (before after : Option Files) (named : Named) (cuts : Cuts) (there : Bool) → cuts_for images files named.key ≡ Some cuts
    → spec.IsTakenBy cuts (folder ++ named.name) (under out named.name) before after there → spec.IsTaken images files folder out named before after there
taken_of images files folder out before after named cuts there is (tame, shelf, counted) =
    (tame_in images files folder before named cuts is tame, shelf ∙ by_years images files folder out before named cuts is, counted)

pub stopped_of : (images : List Cuts) (files : List FileUse) (folder out : List ℕ) (before after : Option Files) (named : Named) (cuts : Cuts) (f : DataFault) → cuts_for images files named.key ≡ Some cuts
    → spec.HasStoppedBy cuts named.key (folder ++ named.name) (under out named.name) before after f → spec.HasStoppedAt images files folder out named before after f
stopped_of images files folder out before after named cuts f is (inl h) = inl h
stopped_of images files folder out before after named cuts f is (inr h) = inr (cuts, is, h)

-- a file that is there
tame_of : (cuts : Cuts) (name : List ℕ) (told : Option Files) (count : ℕ) → IfSome told (λ (shelved : Files). IsTameFile cuts (bytes_of shelved name) count) → IfSome told (λ (shelved : Files). spec.IsTameAt cuts name shelved)
tame_of cuts name None count h = tt
tame_of cuts name (Some shelved) count h = (count, h)

one_there : (o : Option (List ℕ)) (size : ℕ) → Some size ≡ option_map length o → 1 ≡ spec.one_if o
one_there None size is = cc is
one_there (Some bytes) size is = refl

is_there : (name : List ℕ) (told : Option Files) (size : ℕ) → IfSome told (λ (shelved : Files). Some size ≡ option_map length (get shelved name))
    → IfSome told (λ (shelved : Files). spec.one_where true ≡ spec.one_if (get shelved name))
is_there name None size h = tt
is_there name (Some shelved) size h = one_there (get shelved name) size h

pub there_taken : (cuts : Cuts) (name to : List ℕ) (before after : Option Files) (size count : ℕ)
    → IfSome before (λ (shelved : Files). Some size ≡ option_map length (get shelved name))
    → IfSome before (λ (shelved : Files). IsTameFile cuts (bytes_of shelved name) count)
    → after ≡ option_map (converted cuts name to) before
    → spec.IsTakenBy cuts name to before after true
there_taken cuts name to before after size count sized tame is = (tame_of cuts name before count tame, is, is_there name before size sized)

-- a file that is not there
none_there : (o : Option (List ℕ)) → None ≡ option_map length o → o ≡ None
none_there None is = refl
none_there (Some bytes) is = cc is

absent_in : (cuts : Cuts) (name to : List ℕ) (shelved : Files) → get shelved name ≡ None → spec.IsTakenBy cuts name to (Some shelved) (Some shelved) false
absent_in cuts name to shelved is =
    let none : bytes_of shelved name ≡ [] = ap (λ (o : Option (List ℕ)). unwrap_or o []) is in
    let zero : 0 ≡ 0 * cuts.length = omega arith in (
      (0, subst (λ (bytes : List ℕ). IsTameFile cuts bytes 0) (sym none) (zero, tt)),
      ap (λ (o : Option (List ℕ)). Some (with_bytes to (option_map (file_image cuts) o) shelved)) (sym is),
      ap spec.one_if (sym is),
    )

pub absent_taken : (cuts : Cuts) (name to : List ℕ) (before after : Option Files)
    → IfSome before (λ (shelved : Files). None ≡ option_map length (get shelved name)) → after ≡ before
    → spec.IsTakenBy cuts name to before after false
absent_taken cuts name to None after h same = (tt, same, tt)
absent_taken cuts name to (Some shelved) after h same =
    subst (λ (t : Option Files). spec.IsTakenBy cuts name to (Some shelved) t false) (sym same) (absent_in cuts name to shelved (none_there (get shelved name) h))

-- a fault of the call that measures it
cause_in : (cuts : Cuts) (name : List ℕ) (told : Option Files) (error : ShelfErr) → IfSome told (λ (shelved : Files). HasConvertFault cuts (bytes_of shelved name) (fault_of error false))
cause_in cuts name None error = tt
cause_in cuts name (Some shelved) shelf_errors.Failed = (0, tt, tt)
cause_in cuts name (Some shelved) shelf_errors.Memory = (0, tt, tt)

pub measured : (cuts : Cuts) (external name to : List ℕ) (before after : Option Files) (error : ShelfErr) (f : DataFault)
    → IsShelfFault error name f → after ≡ before → spec.HasStopped cuts external name to before after f
measured cuts external name to before after shelf_errors.Failed f is same = (file.Shelf false, cause_in cuts name before shelf_errors.Failed, inl same, is)
measured cuts external name to before after shelf_errors.Memory f is same = (file.Memory, cause_in cuts name before shelf_errors.Memory, inl same, is)

-- the same names
pub taken_under : (cuts : Cuts) (name name2 to to2 : List ℕ) (before after : Option Files) (there : Bool) → name ≡ name2 → to ≡ to2
    → spec.IsTakenBy cuts name to before after there → spec.IsTakenBy cuts name2 to2 before after there
taken_under cuts name name2 to to2 before after there p q h =
    subst (λ (t : List ℕ). spec.IsTakenBy cuts name2 t before after there) q (subst (λ (n : List ℕ). spec.IsTakenBy cuts n to before after there) p h)

pub stopped_under : (cuts : Cuts) (external name name2 to to2 : List ℕ) (before after : Option Files) (f : DataFault) → name ≡ name2 → to ≡ to2
    → spec.HasStopped cuts external name to before after f → spec.HasStoppedBy cuts external name2 to2 before after f
stopped_under cuts external name name2 to to2 before after f p q h =
    inr (subst (λ (t : List ℕ). spec.HasStopped cuts external name2 t before after f) q (subst (λ (n : List ℕ). spec.HasStopped cuts external n to before after f) p h))

-- where no written name is one of those that are read, each file is as it was at first
abbrev IsAsAtFirst : List ℕ → List Named → Files → Files → Type 0
IsAsAtFirst folder [] first now = Unit {0}
IsAsAtFirst folder (named ∷ ns) first now = (bytes_in now folder named ≡ bytes_in first folder named) × IsAsAtFirst folder ns first now

abbrev IsOff : List ℕ → List Named → List ℕ → Type 0
IsOff folder [] name = Unit {0}
IsOff folder (named ∷ ns) name = (folder ++ named.name ≢ name) × IsOff folder ns name

abbrev AreOff : List ℕ → List ℕ → List Named → List Named → Type 0
AreOff folder out all [] = Unit {0}
AreOff folder out all (named ∷ ns) = IsOff folder all (under out named.name) × AreOff folder out all ns

unset : (o : Option (List ℕ)) (to name : List ℕ) (now : Files) → name ≢ to → get (with_bytes to o now) name ≡ get now name
unset None to name now other = refl
unset (Some bytes) to name now other = get-other now to bytes name other

still_as : (folder to : List ℕ) (listed : List Named) (o : Option (List ℕ)) (first now : Files) → IsOff folder listed to → IsAsAtFirst folder listed first now → IsAsAtFirst folder listed first (with_bytes to o now)
still_as folder to [] o first now off same = tt
still_as folder to (named ∷ ns) o first now off same =
    (unset o to (folder ++ named.name) now off.0 ∙ same.0, still_as folder to ns o first now off.1 same.1)

at_first : (folder : List ℕ) (listed : List Named) (first : Files) → IsAsAtFirst folder listed first first
at_first folder [] first = tt
at_first folder (named ∷ ns) first = (refl, at_first folder ns first)

off_rest : (folder out : List ℕ) (named : Named) (ns rest : List Named) → AreOff folder out (named ∷ ns) rest → AreOff folder out ns rest
off_rest folder out named ns [] h = tt
off_rest folder out named ns (r ∷ rs) h = (h.0.1, off_rest folder out named ns rs h.1)

apart_steps : (images : List Cuts) (files : List FileUse) (folder out : List ℕ) (listed : List Named) (first now : Files)
    → AreOff folder out listed listed → IsAsAtFirst folder listed first now
    → (spec.with_steps images files folder out listed now ≡ spec.with_images images files folder out first listed now)
    × (spec.count_steps images files folder out listed now ≡ spec.count_in folder first listed)
apart_steps images files folder out [] first now off same = (refl, refl)
apart_steps images files folder out (named ∷ ns) first now off same =
    let to : List ℕ = under out named.name in
    let step : Files = spec.stepped images files folder out named now in
    let by : Option (List ℕ) → Files = λ (o : Option (List ℕ)). with_bytes to (spec.image_of (cuts_for images files named.key) o) now in
    let rest = apart_steps images files folder out ns first step (off_rest folder out named ns ns off.1) (still_as folder to ns (spec.image_in images files folder now named) first now off.0.1 same.1) in
    let same_step : step ≡ by (bytes_in first folder named) = ap by same.0 in (
      rest.0 ∙ ap (λ (f : Files). spec.with_images images files folder out first ns f) same_step,
      ap (λ (k : ℕ). spec.one_if (bytes_in now folder named) + k) rest.1 ∙ ap (λ (o : Option (List ℕ)). spec.one_if o + spec.count_in folder first ns) same.0,
    )

first_in : (named : Named) (ns : List Named) → Contains (named ∷ ns) named
first_in named ns = (0, omega arith, refl)

later_in : (named : Named) (ns : List Named) (r : Named) → Contains ns r → Contains (named ∷ ns) r
later_in named ns r held = Contains-append_right (named ∷ []) ns r held

off_one : (folder to : List ℕ) (listed : List Named) → ((r : Named) → Contains listed r → folder ++ r.name ≢ to) → IsOff folder listed to
off_one folder to [] h = tt
off_one folder to (named ∷ ns) h = (h named (first_in named ns), off_one folder to ns (λ r held. h r (later_in named ns r held)))

off_all : (folder out : List ℕ) (listed rest : List Named) → ((r w : Named) → Contains listed r → Contains rest w → folder ++ r.name ≢ under out w.name) → AreOff folder out listed rest
off_all folder out listed [] h = tt
off_all folder out listed (named ∷ ns) h = (
  off_one folder (under out named.name) listed (λ r held. h r named held (first_in named ns)),
  off_all folder out listed ns (λ r w held written. h r w held (later_in named ns w written)),
)

apart_in : (images : List Cuts) (files : List FileUse) (folder out : List ℕ) (listed : List Named) (first : Files) (after : Option Files) (count : ℕ)
    → spec.IsConverted images files folder out listed (Some first) after count → spec.AreApart folder out listed → spec.IsWithData images files folder out listed first after count
apart_in images files folder out listed first after count (tame, shelf, counted) apart =
    let both = apart_steps images files folder out listed first first (off_all folder out listed listed apart) (at_first folder listed first) in
    (shelf ∙ ap (λ (f : Files). Some f) both.0, counted ∙ both.1)

pub apart_of : (images : List Cuts) (files : List FileUse) (folder out : List ℕ) (listed : List Named) (first after : Option Files) (count : ℕ)
    → spec.IsConverted images files folder out listed first after count
    → IfSome first (λ (shelved : Files). spec.AreApart folder out listed → spec.IsWithData images files folder out listed shelved after count)
apart_of images files folder out listed None after count h = tt
apart_of images files folder out listed (Some first) after count h = λ apart. apart_in images files folder out listed first after count h apart

pub none_of : (rest : List Named) → length rest < 1 → rest ≡ []
none_of [] short = refl
none_of (named ∷ ns) short = absurd (omega (arith, short))
