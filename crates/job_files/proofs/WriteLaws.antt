-- Files that are written one after the other.
use Rattle.std.proofs.Common.{◌≡◌, inl, inr, ℕ, List, [], ◌∷◌, refl, sym, ap, ◌∙◌, subst, Option, Some, None}
use Rattle.std.specs.Option.{option_map}
use Rattle.data_layout.specs.declared.portfolio.FileUse.{FileUse}
use Rattle.portfolio.specs.declared.manifest.Named.{Named}
use Rattle.program_meaning.specs.Files.{Disk}
use Rattle.shelf.specs.Contents.{Files}
use Rattle.written_names.specs.Clashes.{under, done_under}
use Rattle.job_files.specs.Written.{bytes_held, done_bytes, with_bytes, with_held, with_file, with_files, with_run, MayHaveBegun, MayHaveBegunHeld, HasLeft, IsFaultAt, HasWriteFault}
use Rattle.job_files.specs.declared.refusal.WriteFault.{WriteFault}
use Rattle.job_files.specs.declared.refusal.WriteFault.TheVariants as fault

-- the files before the rest of the list are written
pub record Goes (out : List ℕ) (files : List FileUse) (ds : List Disk) (listed : List Named) (before : Option Files) (rest : List Named) (now : Option Files) : Type 0 where
  pub written : option_map (with_files out files ds rest) now ≡ option_map (with_files out files ds listed) before
  pub left : (after : Option Files) → HasLeft out files ds rest now after → HasLeft out files ds listed before after
  pub names : (f : WriteFault) → HasWriteFault out rest f → HasWriteFault out listed f

pub none_written : (out : List ℕ) (files : List FileUse) (ds : List Disk) (listed : List Named) (told : Option Files) → Goes out files ds listed told listed told
none_written out files ds listed told = record { written = refl; left = λ after h. h; names = λ f h. h }

more_names : (out : List ℕ) (named : Named) (more : List Named) (f : WriteFault) → HasWriteFault out more f → HasWriteFault out (named ∷ more) f
more_names out named more (fault.Shelf name) h = inr h
more_names out named more fault.Memory h = tt

both : (out : List ℕ) (files : List FileUse) (ds : List Disk) (named : Named) (more : List Named) (told : Option Files)
    → option_map (with_files out files ds more) (option_map (with_file out files ds named) told) ≡ option_map (with_files out files ds (named ∷ more)) told
both out files ds named more None = refl
both out files ds named more (Some shelved) = refl

pub one_written : (out : List ℕ) (files : List FileUse) (ds : List Disk) (listed : List Named) (before : Option Files) (rest : List Named) (named : Named) (more : List Named) (now next : Option Files)
    → rest ≡ named ∷ more → Goes out files ds listed before rest now → next ≡ option_map (with_file out files ds named) now → Goes out files ds listed before more next
one_written out files ds listed before rest named more now next is goes e =
    let g = subst (λ (r : List Named). Goes out files ds listed before r now) is goes in
    record {
      written = ap (λ (t : Option Files). option_map (with_files out files ds more) t) e ∙ both out files ds named more now ∙ g.written;
      left = λ after h. g.left after (inr (subst (λ (t : Option Files). HasLeft out files ds more t after) e h));
      names = λ f h. g.names f (more_names out named more f h);
    }

pub one_left : (out : List ℕ) (files : List FileUse) (ds : List Disk) (listed : List Named) (before : Option Files) (rest : List Named) (named : Named) (more : List Named) (now after : Option Files)
    → rest ≡ named ∷ more → Goes out files ds listed before rest now → MayHaveBegunHeld (under out named.name) (bytes_held files ds named.key) now after
    → HasLeft out files ds listed before after
one_left out files ds listed before rest named more now after is goes h =
    (subst (λ (r : List Named). Goes out files ds listed before r now) is goes).left after (inl h)

first_name : (out : List ℕ) (named : Named) (more : List Named) (f : WriteFault) → IsFaultAt (under out named.name) f → HasWriteFault out (named ∷ more) f
first_name out named more (fault.Shelf name) h = inl h
first_name out named more fault.Memory h = tt

pub one_fault : (out : List ℕ) (files : List FileUse) (ds : List Disk) (listed : List Named) (before : Option Files) (rest : List Named) (named : Named) (more : List Named) (now : Option Files) (f : WriteFault)
    → rest ≡ named ∷ more → Goes out files ds listed before rest now → IsFaultAt (under out named.name) f → HasWriteFault out listed f
one_fault out files ds listed before rest named more now f is goes h =
    (subst (λ (r : List Named). Goes out files ds listed before r now) is goes).names f (first_name out named more f h)

none_more : (out : List ℕ) (files : List FileUse) (ds : List Disk) (told : Option Files) → option_map (with_files out files ds []) told ≡ told
none_more out files ds None = refl
none_more out files ds (Some shelved) = refl

with_end : (out : List ℕ) (files : List FileUse) (ds : List Disk) (listed : List Named) (told : Option Files)
    → option_map (with_bytes (done_under out) done_bytes) (option_map (with_files out files ds listed) told) ≡ option_map (with_run out files ds listed) told
with_end out files ds listed None = refl
with_end out files ds listed (Some shelved) = refl

pub all_written : (out : List ℕ) (files : List FileUse) (ds : List Disk) (listed : List Named) (before : Option Files) (rest : List Named) (now after : Option Files)
    → rest ≡ [] → Goes out files ds listed before rest now → after ≡ option_map (with_bytes (done_under out) done_bytes) now
    → after ≡ option_map (with_run out files ds listed) before
all_written out files ds listed before rest now after is goes e =
    let g = subst (λ (r : List Named). Goes out files ds listed before r now) is goes in
    e
    ∙ ap (λ (t : Option Files). option_map (with_bytes (done_under out) done_bytes) t) (sym (none_more out files ds now) ∙ g.written)
    ∙ with_end out files ds listed before

pub end_left : (out : List ℕ) (files : List FileUse) (ds : List Disk) (listed : List Named) (before : Option Files) (rest : List Named) (now after : Option Files)
    → rest ≡ [] → Goes out files ds listed before rest now → MayHaveBegun (done_under out) done_bytes now after → HasLeft out files ds listed before after
end_left out files ds listed before rest now after is goes h =
    (subst (λ (r : List Named). Goes out files ds listed before r now) is goes).left after h

last_name : (out : List ℕ) (f : WriteFault) → IsFaultAt (done_under out) f → HasWriteFault out [] f
last_name out (fault.Shelf name) h = h
last_name out fault.Memory h = tt

pub end_fault : (out : List ℕ) (files : List FileUse) (ds : List Disk) (listed : List Named) (before : Option Files) (rest : List Named) (now : Option Files) (f : WriteFault)
    → rest ≡ [] → Goes out files ds listed before rest now → IsFaultAt (done_under out) f → HasWriteFault out listed f
end_fault out files ds listed before rest now f is goes h =
    (subst (λ (r : List Named). Goes out files ds listed before r now) is goes).names f (last_name out f h)

-- where nothing was written, the first file isn't begun
not_begun : (name : List ℕ) (bytes : Option (List ℕ)) (told : Option Files) → MayHaveBegunHeld name bytes told told
not_begun name None told = refl
not_begun name (Some bytes) told = inl refl

nothing : (out : List ℕ) (files : List FileUse) (ds : List Disk) (listed : List Named) (told : Option Files) → HasLeft out files ds listed told told
nothing out files ds [] told = inl refl
nothing out files ds (named ∷ more) told = inl (not_begun (under out named.name) (bytes_held files ds named.key) told)

pub nothing_left : (out : List ℕ) (files : List FileUse) (ds : List Disk) (listed : List Named) (before after : Option Files) → after ≡ before → HasLeft out files ds listed before after
nothing_left out files ds listed before after e = subst (λ (t : Option Files). HasLeft out files ds listed before t) (sym e) (nothing out files ds listed before)

-- a file that isn't held isn't written
pub same_shelf : (name : List ℕ) (bytes : Option (List ℕ)) (told : Option Files) → bytes ≡ None → told ≡ option_map (with_held name bytes) told
same_shelf name bytes told e = subst (λ (b : Option (List ℕ)). told ≡ option_map (with_held name b) told) (sym e) (unheld name told)
  where
    unheld : (name : List ℕ) (told : Option Files) → told ≡ option_map (with_held name None) told
    unheld name None = refl
    unheld name (Some shelved) = refl
