-- Files that are loaded one after the other.
use Rattle.std.proofs.Common.{◌≡◌, inl, inr, ◌++◌, ℕ, List, [], ◌∷◌, length, refl, sym, ap, ◌∙◌, subst, Option, Some, None, IfSome}
use Rattle.std.specs.FinMap.{get}
use Rattle.shelf.specs.Contents.{Files}
use Rattle.data_layout.specs.declared.portfolio.FileUse.{FileUse}
use Rattle.portfolio.specs.declared.manifest.Named.{Named}
use Rattle.program_meaning.specs.Files.{Disk, disk_at}
use Rattle.name_tables.specs.Table.{holds_nothing}
use Rattle.job_files.specs.Numbers.{number_of, AreApart}
use Rattle.job_files.specs.Loaded.{Contents, bytes_at, with_bytes, with_listed, contents_in, disks_in, size_at, size_of, AreLoaded, AreClosed, IsWhole, IsWholeOf, AreWhole, IsRead, IsReadAt, IsUnread, IsUnreadAt, IsFault, IsFaultAt, HasFault, HasDataRefusal}
use Rattle.job_files.specs.declared.refusal.DataRefusal.{DataRefusal}
use Rattle.job_files.specs.declared.refusal.DataRefusal.TheVariants as refusal
use Rattle.job_files.proofs.NumberLaws.{as_many, disk_set, disks_stay, is_size}

if_any : {A : Type 0} (o : Option A) (P : A → Type 0) → ((x : A) → P x) → IfSome o P
if_any None P h = tt
if_any (Some x) P h = h x

if_one : {A : Type 0} (o : Option A) (P Q : A → Type 0) → ((x : A) → P x → Q x) → IfSome o P → IfSome o Q
if_one None P Q h p = tt
if_one (Some x) P Q h p = h x p

if_two : {A : Type 0} (o : Option A) (P Q R : A → Type 0) → ((x : A) → P x → Q x → R x) → IfSome o P → IfSome o Q → IfSome o R
if_two None P Q R h p q = tt
if_two (Some x) P Q R h p q = h x p q

-- the files before the rest of the list are loaded
pub record Goes (told : Option Files) (folder : List ℕ) (listed : List Named) (files : List FileUse) (rest : List Named) (ds : List Disk) : Type 0 where
  pub contents : Contents
  pub is : ds ≡ disks_in contents files
  pub held : IfSome told (λ shelved. with_listed shelved folder contents rest ≡ contents_in shelved folder listed)
  pub whole : IfSome told (λ shelved. AreWhole shelved folder files rest → AreWhole shelved folder files listed)
  pub refused : (r : DataRefusal) → HasDataRefusal told folder files rest r → HasDataRefusal told folder files listed r

pub none_loaded : (told : Option Files) (folder : List ℕ) (listed : List Named) (files : List FileUse) (ds : List Disk) → ds ≡ disks_in holds_nothing files
    → Goes told folder listed files listed ds
none_loaded told folder listed files ds is = record {
  contents = holds_nothing;
  is = is;
  held = if_any told (λ shelved. with_listed shelved folder holds_nothing listed ≡ contents_in shelved folder listed) (λ shelved. refl);
  whole = if_any told (λ shelved. AreWhole shelved folder files listed → AreWhole shelved folder files listed) (λ shelved h. h);
  refused = λ r h. h;
}

more_refused : (told : Option Files) (folder : List ℕ) (files : List FileUse) (named : Named) (more : List Named) (r : DataRefusal)
    → IfSome told (λ shelved. IsWhole shelved folder files named) → HasDataRefusal told folder files more r → HasDataRefusal told folder files (named ∷ more) r
more_refused told folder files named more (refusal.TooLarge name) whole h =
    if_two told (λ shelved. IsWhole shelved folder files named) (λ shelved. HasFault shelved folder files more (refusal.TooLarge name))
    (λ shelved. HasFault shelved folder files (named ∷ more) (refusal.TooLarge name)) (λ shelved w f. inr (w, f)) whole h
more_refused told folder files named more (refusal.PartialRecord external left) whole h =
    if_two told (λ shelved. IsWhole shelved folder files named) (λ shelved. HasFault shelved folder files more (refusal.PartialRecord external left))
    (λ shelved. HasFault shelved folder files (named ∷ more) (refusal.PartialRecord external left)) (λ shelved w f. inr (w, f)) whole h
more_refused told folder files named more (refusal.Shelf name) whole h = inr h
more_refused told folder files named more refusal.Memory whole h = tt

pub one_loaded : (told : Option Files) (folder : List ℕ) (listed : List Named) (files : List FileUse) (rest : List Named) (named : Named) (more : List Named) (before after : List Disk)
    → rest ≡ named ∷ more → Goes told folder listed files rest before → IsRead told folder files named before after → Goes told folder listed files more after
one_loaded told folder listed files rest named more before after e goes (bytes, step, known) =
    let g = subst (λ (r : List Named). Goes told folder listed files r before) e goes in
    record {
      contents = with_bytes g.contents named.key bytes;
      is = step g.contents g.is;
      held = if_two told (λ shelved. (bytes ≡ bytes_at shelved folder named) × IsWhole shelved folder files named)
          (λ shelved. with_listed shelved folder g.contents (named ∷ more) ≡ contents_in shelved folder listed)
          (λ shelved. with_listed shelved folder (with_bytes g.contents named.key bytes) more ≡ contents_in shelved folder listed)
          (λ shelved k h. ap (λ (b : Option (List ℕ)). with_listed shelved folder (with_bytes g.contents named.key b) more) k.0 ∙ h) known g.held;
      whole = if_two told (λ shelved. (bytes ≡ bytes_at shelved folder named) × IsWhole shelved folder files named)
          (λ shelved. AreWhole shelved folder files (named ∷ more) → AreWhole shelved folder files listed)
          (λ shelved. AreWhole shelved folder files more → AreWhole shelved folder files listed)
          (λ shelved k h w. h (k.1, w)) known g.whole;
      refused = λ r h. g.refused r (more_refused told folder files named more r
          (if_one told (λ shelved. (bytes ≡ bytes_at shelved folder named) × IsWhole shelved folder files named) (λ shelved. IsWhole shelved folder files named) (λ shelved k. k.1) known) h);
    }

first_refused : (told : Option Files) (folder : List ℕ) (files : List FileUse) (named : Named) (more : List Named) (r : DataRefusal)
    → IsUnread told folder files named r → HasDataRefusal told folder files (named ∷ more) r
first_refused told folder files named more (refusal.TooLarge name) h =
    if_one told (λ shelved. IsFault shelved folder files named (refusal.TooLarge name))
    (λ shelved. HasFault shelved folder files (named ∷ more) (refusal.TooLarge name)) (λ shelved f. inl f) h
first_refused told folder files named more (refusal.PartialRecord external left) h =
    if_one told (λ shelved. IsFault shelved folder files named (refusal.PartialRecord external left))
    (λ shelved. HasFault shelved folder files (named ∷ more) (refusal.PartialRecord external left)) (λ shelved f. inl f) h
first_refused told folder files named more (refusal.Shelf name) h = inl h
first_refused told folder files named more refusal.Memory h = tt

pub one_refused : (told : Option Files) (folder : List ℕ) (listed : List Named) (files : List FileUse) (rest : List Named) (named : Named) (more : List Named) (ds : List Disk) (r : DataRefusal)
    → rest ≡ named ∷ more → Goes told folder listed files rest ds → IsUnread told folder files named r → HasDataRefusal told folder files listed r
one_refused told folder listed files rest named more ds r e goes h =
    (subst (λ (x : List Named). Goes told folder listed files x ds) e goes).refused r (first_refused told folder files named more r h)

pub all_loaded : (told : Option Files) (folder : List ℕ) (listed : List Named) (files : List FileUse) (rest : List Named) (ds : List Disk)
    → rest ≡ [] → Goes told folder listed files rest ds → AreLoaded told folder listed files ds
all_loaded told folder listed files rest ds e goes =
    let g = subst (λ (x : List Named). Goes told folder listed files x ds) e goes in
    (g.contents, g.is, g.held)

pub all_whole : (told : Option Files) (folder : List ℕ) (listed : List Named) (files : List FileUse) (rest : List Named) (ds : List Disk)
    → rest ≡ [] → Goes told folder listed files rest ds → IfSome told (λ shelved. AreWhole shelved folder files listed)
all_whole told folder listed files rest ds e goes =
    let g = subst (λ (x : List Named). Goes told folder listed files x ds) e goes in
    if_one told (λ shelved. AreWhole shelved folder files [] → AreWhole shelved folder files listed) (λ shelved. AreWhole shelved folder files listed) (λ shelved h. h tt) g.whole

-- a file with a number is read where its disk is
pub numbered_read : (told : Option Files) (folder : List ℕ) (files : List FileUse) (named : Named) (n : ℕ) (before after : List Disk) → AreApart files → AreClosed files before
    → number_of files named.key ≡ Some n → IsReadAt told (folder ++ named.name) n before after → IsRead told folder files named before after
numbered_read told folder files named n before after apart closed e (bytes, a, known) = (
  bytes,
  disk_set files named.key n bytes before after apart e a,
  if_one told (λ shelved. (bytes ≡ get shelved (folder ++ named.name)) × IsWholeOf (Some (disk_at before n).length) bytes)
      (λ shelved. (bytes ≡ bytes_at shelved folder named) × IsWhole shelved folder files named)
      (λ shelved k. (k.0, whole shelved k)) known,
)
  where
    size : size_of files named.key ≡ Some (disk_at before n).length
    size = is_size closed.0 files before named.key n closed.1 e

    whole : (shelved : Files) → (bytes ≡ get shelved (folder ++ named.name)) × IsWholeOf (Some (disk_at before n).length) bytes → IsWhole shelved folder files named
    whole shelved k = subst (λ (b : Option (List ℕ)). IsWholeOf (size_of files named.key) b) k.0 (subst (λ (s : Option ℕ). IsWholeOf s bytes) (sym size) k.1)

pub numbered_unread : (told : Option Files) (folder : List ℕ) (files : List FileUse) (named : Named) (n : ℕ) (before : List Disk) (r : DataRefusal) → AreClosed files before
    → number_of files named.key ≡ Some n → IsUnreadAt told (folder ++ named.name) named (disk_at before n).length r → IsUnread told folder files named r
numbered_unread told folder files named n before (refusal.TooLarge name) closed e h =
    subst (λ (s : Option ℕ). IfSome told (λ shelved. IsFaultAt named s (bytes_at shelved folder named) (refusal.TooLarge name))) (sym (is_size closed.0 files before named.key n closed.1 e)) h
numbered_unread told folder files named n before (refusal.PartialRecord external left) closed e h =
    subst (λ (s : Option ℕ). IfSome told (λ shelved. IsFaultAt named s (bytes_at shelved folder named) (refusal.PartialRecord external left))) (sym (is_size closed.0 files before named.key n closed.1 e)) h
numbered_unread told folder files named n before (refusal.Shelf name) closed e h = h
numbered_unread told folder files named n before refusal.Memory closed e h = tt

-- a file without a number isn't read
pub unnumbered_read : (told : Option Files) (folder : List ℕ) (files : List FileUse) (named : Named) (ds : List Disk) → number_of files named.key ≡ None
    → IsRead told folder files named ds ds
unnumbered_read None folder files named ds e = (None, disks_stay files named.key None ds e, tt)
unnumbered_read (Some shelved) folder files named ds e =
    let bytes : Option (List ℕ) = bytes_at shelved folder named in
    let whole : IsWhole shelved folder files named = subst (λ (s : Option ℕ). IsWholeOf s bytes) (sym (unsized files named.key e)) tt in
    let known : IfSome (Some shelved) (λ (f : Files). (bytes ≡ bytes_at f folder named) × IsWhole f folder files named) = (refl, whole) in
    (bytes, disks_stay files named.key bytes ds e, known)
  where
    unsized : (files : List FileUse) (key : List ℕ) → number_of files key ≡ None → size_of files key ≡ None
    unsized files key e = ap (λ (o : Option ℕ). size_at files o) e

pub all_there : (told : Option Files) (folder : List ℕ) (listed : List Named) (files : List FileUse) (ds : List Disk) → AreLoaded told folder listed files ds → length ds ≡ length files
all_there told folder listed files ds (contents, is, held) = ap (λ (xs : List Disk). length xs) is ∙ as_many contents files
