-- What a file statement did, from its parts.
use Rattle.std.proofs.Common.{◌≡◌, ℕ, Bool, false, List, [], Option, Some, None, Result, Ok, Err, IfOk, IfErr, IsErrAnd, length, slice_index_or, refl, sym, ap, ap₂, ◌∙◌, subst}
use Rattle.y2k_base.specs.declared.place.Span.{Span}
use Rattle.cobol_syntax.specs.declared.program.Program as tree
use Rattle.data_layout.specs.declared.item.Layout.{Layout}
use Rattle.data_layout.specs.declared.portfolio.FileUse.{FileUse}
use Rattle.layout_reading.specs.Reading.{read_program, read_layout, read_span, first_area}
use Rattle.program_channels.specs.Channel.{read_channel}
use Rattle.program_channels.specs.Channels.{HasRecord}
use Rattle.program_channels.specs.declared.channel.Channel.{Channel}
use Rattle.program_meaning.specs.Answer as answer
use Rattle.program_meaning.specs.Answer.{Answer}
use Rattle.program_meaning.specs.Files.{Done, disk_at, write_file}
use Rattle.program_meaning.specs.Layout as meant
use Rattle.program_meaning.specs.State as state
use Rattle.program_meaning.specs.State.{Program, Shown, World}
use Rattle.program_meaning.specs.Step.{Calendar, Called, Told, Broken, stored_by, told, call, into_place, record_span, from_operand, write_from}
use Rattle.program_meaning.specs.Moves.{move_group}
use Rattle.program_meaning.specs.Storage.{Storage, read}
use Rattle.program_meaning.specs.Tree.{Place, Operand}
use Rattle.place_table.specs.Tables.{Gave, Failed}
use Rattle.place_table.specs.declared.places.Places.{Places}
use Rattle.seq_files.specs.Codes.{code}
use Rattle.seq_files.specs.Disks.{disks}
use Rattle.seq_files.specs.declared.status.Status.{Status}
use Rattle.seq_files.specs.declared.status.Status.TheVariants as status
use Rattle.storage_places.specs.Held.{held, first}
use Rattle.storage_places.specs.declared.storage.Storage as held_by
use Rattle.storage_places.specs.declared.fault.RunFault.{RunFault}
use Rattle.storage_places.specs.declared.fault.RunFault.TheVariants as run
use Rattle.file_statements.specs.declared.fault.StepFault.{StepFault}
use Rattle.file_statements.specs.declared.fault.StepFault.TheVariants as step
use Rattle.file_statements.specs.declared.unit.RunUnit.{RunUnit}
use Rattle.file_statements.specs.Calls.{Tells, Breaks, BreaksBy}
use Rattle.file_statements.specs.Done.{HasDone}
use Rattle.file_statements.specs.Faults.{step_fault}
use Rattle.file_statements.specs.Units.{IsUnitOf, layout_of, world_of}

pub unit-from : (layout : Layout) (mid new : RunUnit) → IsUnitOf layout mid → IsUnitOf (layout_of mid) new → IsUnitOf layout new
unit-from layout mid new is then' = subst (λ (l : Layout). IsUnitOf l new) is.places then'

-- one meaning in one world is the other in another
abbrev pub Links : Layout → RunUnit → RunUnit → (Program → Calendar → World → Called) → (Program → Calendar → World → Called) → Type 0
Links layout old mid whole rest =
    (files : List FileUse) (program : tree.Program) (day : Calendar) (shown : List Shown) →
    whole (read_program files program layout) day (world_of old shown) ≡ rest (read_program files program layout) day (world_of mid shown)

breaks-from : (layout : Layout) (old mid new : RunUnit) (whole rest : Program → Calendar → World → Called) (e : StepFault) → Links layout old mid whole rest
    → Breaks layout mid new rest e → Breaks layout old new whole e
breaks-from layout old mid new whole rest step.Data links breaks = λ files program day shown. links files program day shown ∙ breaks files program day shown
breaks-from layout old mid new whole rest step.Range links breaks = λ files program day shown. links files program day shown ∙ breaks files program day shown
breaks-from layout old mid new whole rest step.Zero links breaks = λ files program day shown. links files program day shown ∙ breaks files program day shown
breaks-from layout old mid new whole rest step.Wide links breaks = λ files program day shown. links files program day shown ∙ breaks files program day shown
breaks-from layout old mid new whole rest step.File links breaks = λ files program day shown. links files program day shown ∙ breaks files program day shown
breaks-from layout old mid new whole rest step.Memory links breaks = record {}

-- what the last part told is what the whole tells
pub ok-from : (layout : Layout) (old mid new : RunUnit) (whole rest : Program → Calendar → World → Called) (r : Result Status StepFault) → IsUnitOf layout mid
    → Links layout old mid whole rest → IfOk r (Tells (layout_of mid) mid new rest) → IfOk r (Tells layout old new whole)
ok-from layout old mid new whole rest (Ok s) is links tells = λ files program day shown.
    links files program day shown ∙ subst (λ (l : Layout). Tells l mid new rest s) is.places tells files program day shown
ok-from layout old mid new whole rest (Err e) is links tells = record {}

pub err-from : (layout : Layout) (old mid new : RunUnit) (whole rest : Program → Calendar → World → Called) (r : Result Status StepFault) → IsUnitOf layout mid
    → Links layout old mid whole rest → IfErr r (Breaks (layout_of mid) mid new rest) → IfErr r (Breaks layout old new whole)
err-from layout old mid new whole rest (Ok s) is links breaks = record {}
err-from layout old mid new whole rest (Err e) is links breaks =
    breaks-from layout old mid new whole rest e links (subst (λ (l : Layout). Breaks l mid new rest e) is.places breaks)

-- a fault that a later part passes on
pub breaks-on : (layout : Layout) (old new : RunUnit) (whole : Program → Calendar → World → Called) (later : Program → Calendar → Called → Called) (e : StepFault)
    → ((p : Program) (day : Calendar) (fault : answer.Fault) (w : World) → later p day (Broken fault w) ≡ Broken fault w)
    → Breaks layout old new whole e → Breaks layout old new (λ p day w. later p day (whole p day w)) e
breaks-on layout old new whole later step.Data passes breaks = λ files program day shown.
    ap (later (read_program files program layout) day) (breaks files program day shown) ∙ passes (read_program files program layout) day answer.Data (world_of new shown)
breaks-on layout old new whole later step.Range passes breaks = λ files program day shown.
    ap (later (read_program files program layout) day) (breaks files program day shown) ∙ passes (read_program files program layout) day answer.Range (world_of new shown)
breaks-on layout old new whole later step.Zero passes breaks = λ files program day shown.
    ap (later (read_program files program layout) day) (breaks files program day shown) ∙ passes (read_program files program layout) day answer.Zero (world_of new shown)
breaks-on layout old new whole later step.Wide passes breaks = λ files program day shown.
    ap (later (read_program files program layout) day) (breaks files program day shown) ∙ passes (read_program files program layout) day answer.Wide (world_of new shown)
breaks-on layout old new whole later step.File passes breaks = λ files program day shown.
    ap (later (read_program files program layout) day) (breaks files program day shown) ∙ passes (read_program files program layout) day answer.File (world_of new shown)
breaks-on layout old new whole later step.Memory passes breaks = record {}

-- the status after the file's own part
pub call-links : (layout : Layout) (old mid : RunUnit) (c : state.Channel) (d : Done) (end : Bool) (s : Status) → HasDone c d old mid s
    → (files : List FileUse) (program : tree.Program) (day : Calendar) (shown : List Shown)
    → call (read_program files program layout) day (world_of old shown) c d end ≡ told (read_layout program layout) c.status end (code s) (world_of mid shown)
call-links layout old mid c d end s is files program day shown =
    ap₂ (λ (n : ℕ) (w : World). told (read_layout program layout) c.status end n w) (sym is.status) (is.world shown)

pub into-broken : (layout : meant.Layout) (c : state.Channel) (into : Option Place) (e : answer.Fault) (w : World) → into_place layout c into (Broken e w) ≡ Broken e w
into-broken layout c None e w = refl
into-broken layout c (Some p) e w = refl

-- a call whose status is told by the last part
pub ok-called : (layout : Layout) (old mid new : RunUnit) (c : state.Channel) (d : Done) (end : Bool) (s : Status) (r : Result Status StepFault) → IsUnitOf layout mid → HasDone c d old mid s
    → IfOk r (Tells (layout_of mid) mid new (λ p day w. told p.layout c.status end (code s) w)) → IfOk r (Tells layout old new (λ p day w. call p day w c d end))
ok-called layout old mid new c d end s r is done tells =
    ok-from layout old mid new (λ p day w. call p day w c d end) (λ p day w. told p.layout c.status end (code s) w) r is (call-links layout old mid c d end s done) tells

pub err-called : (layout : Layout) (old mid new : RunUnit) (c : state.Channel) (d : Done) (end : Bool) (s : Status) (r : Result Status StepFault) → IsUnitOf layout mid → HasDone c d old mid s
    → IfErr r (Breaks (layout_of mid) mid new (λ p day w. told p.layout c.status end (code s) w)) → IfErr r (Breaks layout old new (λ p day w. call p day w c d end))
err-called layout old mid new c d end s r is done breaks =
    err-from layout old mid new (λ p day w. call p day w c d end) (λ p day w. told p.layout c.status end (code s) w) r is (call-links layout old mid c d end s done) breaks

-- READ whose status was told: INTO is left
pub read-links : (layout : Layout) (old mid told' : RunUnit) (c : state.Channel) (d : Done) (end : Bool) (into : Option Place) (s t : Status) → IsUnitOf layout mid → HasDone c d old mid s
    → Tells (layout_of mid) mid told' (λ p day w. told p.layout c.status end (code s) w) t
    → Links layout old told' (λ p day w. into_place p.layout c into (call p day w c d end)) (λ p day w. into_place p.layout c into (Told (code t) w))
read-links layout old mid told' c d end into s t is done tells = λ files program day shown.
    ap (λ (r : Called). into_place (read_layout program layout) c into r)
    (call-links layout old mid c d end s done files program day shown
    ∙ subst (λ (l : Layout). Tells l mid told' (λ p day w. told p.layout c.status end (code s) w) t) is.places tells files program day shown)

-- READ that its status ends
pub read-broken : (layout : Layout) (old mid new : RunUnit) (c : state.Channel) (d : Done) (end : Bool) (into : Option Place) (s : Status) (e : StepFault) → IsUnitOf layout mid
    → HasDone c d old mid s → Breaks (layout_of mid) mid new (λ p day w. told p.layout c.status end (code s) w) e
    → Breaks layout old new (λ p day w. into_place p.layout c into (call p day w c d end)) e
read-broken layout old mid new c d end into s e is done breaks =
    breaks-on layout old new (λ p day w. call p day w c d end) (λ p day r. into_place p.layout c into r) e (λ p day fault w. into-broken p.layout c into fault w)
    (breaks-from layout old mid new (λ p day w. call p day w c d end) (λ p day w. told p.layout c.status end (code s) w) e (call-links layout old mid c d end s done)
    (subst (λ (l : Layout). Breaks l mid new (λ p day w. told p.layout c.status end (code s) w) e) is.places breaks))

-- WRITE after FROM and its own part: the status is left
pub write-links : (layout : Layout) (old mid done' : RunUnit) (c : state.Channel) (from : Option Operand) (span : Span) (s : Status) → IsUnitOf layout mid
    → Tells layout old mid (λ p day w. from_operand p day w from (read_span (first_area layout.areas) span)) status.S00
    → HasDone c (write_file (disk_at (disks mid.store) c.file) (read (held mid.storage) (read_span (first_area (layout_of mid).areas) span))) mid done' s
    → Links layout old done' (λ p day w. write_from p day c (read_span (first_area layout.areas) span) (from_operand p day w from (read_span (first_area layout.areas) span)))
    (λ p day w. told p.layout c.status false (code s) w)
write-links layout old mid done' c from span s is tells done = λ files program day shown.
    ap (λ (r : Called). write_from (read_program files program layout) day c (read_span (first_area layout.areas) span) r) (tells files program day shown)
    ∙ call-links layout mid done' c (write_file (disk_at (disks mid.store) c.file) (read (held mid.storage) (read_span (first_area layout.areas) span))) false s
    (subst (λ (l : Layout). HasDone c (write_file (disk_at (disks mid.store) c.file) (read (held mid.storage) (read_span (first_area l.areas) span))) mid done' s) is.places done) files program day shown

-- WRITE that FROM ends
pub write-broken : (layout : Layout) (old new : RunUnit) (c : state.Channel) (from : Option Operand) (span : Span) (e : StepFault)
    → Breaks layout old new (λ p day w. from_operand p day w from (read_span (first_area layout.areas) span)) e
    → Breaks layout old new (λ p day w. write_from p day c (read_span (first_area layout.areas) span) (from_operand p day w from (read_span (first_area layout.areas) span))) e
write-broken layout old new c from span e breaks =
    breaks-on layout old new (λ p day w. from_operand p day w from (read_span (first_area layout.areas) span)) (λ p day r. write_from p day c (read_span (first_area layout.areas) span) r) e
    (λ p day fault w. refl) breaks

-- a change of storage alone
pub tells-stored : (layout : Layout) (old : RunUnit) (places : Places) (storage : held_by.Storage) (s : Status) (f : meant.Layout → Storage → Answer Storage)
    → Gave layout (λ (l : meant.Layout). f l (held old.storage)) (held storage)
    → Tells layout old (record { places = places; storage = storage; store = old.store }) (λ p day w. stored_by (code s) w (f p.layout w.storage)) s
tells-stored layout old places storage s f gave files program day shown =
    ap (λ (a : Answer Storage). stored_by (code s) (world_of old shown) a) (gave program)

breaks-by-stored : (layout : Layout) (old : RunUnit) (places : Places) (storage : held_by.Storage) (n : ℕ) (f : meant.Layout → Storage → Answer Storage) (e : answer.Fault)
    → held storage ≡ held old.storage → ((program : tree.Program) → f (read_layout program layout) (held old.storage) ≡ answer.Fails e)
    → BreaksBy layout old (record { places = places; storage = storage; store = old.store }) (λ p day w. stored_by n w (f p.layout w.storage)) e
breaks-by-stored layout old places storage n f e stays fails files program day shown =
    ap (λ (a : Answer Storage). stored_by n (world_of old shown) a) (fails program)
    ∙ ap (λ (st : Storage). Broken e (record { storage = st; files = disks old.store; shown = shown })) (sym stays)

breaks-kept : (layout : Layout) (old : RunUnit) (places : Places) (storage : held_by.Storage) (n : ℕ) (f : meant.Layout → Storage → Answer Storage) (e : RunFault)
    → held storage ≡ held old.storage → Failed layout (λ (l : meant.Layout). f l (held old.storage)) e
    → Breaks layout old (record { places = places; storage = storage; store = old.store }) (λ p day w. stored_by n w (f p.layout w.storage)) (step_fault e)
breaks-kept layout old places storage n f run.Data stays fails = breaks-by-stored layout old places storage n f answer.Data stays fails
breaks-kept layout old places storage n f run.Range stays fails = breaks-by-stored layout old places storage n f answer.Range stays fails
breaks-kept layout old places storage n f run.Zero stays fails = breaks-by-stored layout old places storage n f answer.Zero stays fails
breaks-kept layout old places storage n f run.Wide stays fails = breaks-by-stored layout old places storage n f answer.Wide stays fails
breaks-kept layout old places storage n f run.Memory stays fails = record {}

-- or its fault, after which the storage is as it was
pub breaks-stored : (layout : Layout) (old : RunUnit) (places : Places) (storage : held_by.Storage) (n : ℕ) (f : meant.Layout → Storage → Answer Storage) (e : RunFault) (met : StepFault)
    → met ≡ step_fault e → held storage ≡ held old.storage → Failed layout (λ (l : meant.Layout). f l (held old.storage)) e
    → Breaks layout old (record { places = places; storage = storage; store = old.store }) (λ p day w. stored_by n w (f p.layout w.storage)) met
breaks-stored layout old places storage n f e met is stays fails =
    subst (λ (x : StepFault). Breaks layout old (record { places = places; storage = storage; store = old.store }) (λ p day w. stored_by n w (f p.layout w.storage)) x) (sym is)
    (breaks-kept layout old places storage n f e stays fails)

-- the whole record area, as INTO takes it
abbrev pub area_of : Channel → Storage → List ℕ
area_of c st = read st (record { area = c.area; start = 0; count = length (slice_index_or st c.area []) })

whole-area : (layout : Layout) (old : RunUnit) (c : Channel) (bytes : List ℕ) → IsUnitOf layout old → HasRecord layout c
    → bytes ≡ read (held old.storage) (read_span (first old.storage) c.span) → bytes ≡ area_of c (held old.storage)
whole-area layout old c bytes is has copy =
    copy
    ∙ ap (λ (n : ℕ). read (held old.storage) (read_span n c.span)) is.storage.first
    ∙ ap (λ (s : meant.Span). read (held old.storage) s) (sym (has.meant (world_of old []) is.storage.lengths))

pub tells-into : (layout : Layout) (old : RunUnit) (places : Places) (storage : held_by.Storage) (c : Channel) (place : Place) (bytes : List ℕ) → IsUnitOf layout old → HasRecord layout c
    → bytes ≡ read (held old.storage) (read_span (first old.storage) c.span) → Gave layout (λ (l : meant.Layout). move_group l (held old.storage) bytes place) (held storage)
    → Tells layout old (record { places = places; storage = storage; store = old.store })
    (λ p day w. stored_by 0 w (move_group p.layout w.storage (read w.storage (record_span w (read_channel c))) place)) status.S00
tells-into layout old places storage c place bytes is has copy gave =
    tells-stored layout old places storage status.S00 (λ (l : meant.Layout) (st : Storage). move_group l st (area_of c st) place)
    (subst (λ (bs : List ℕ). Gave layout (λ (l : meant.Layout). move_group l (held old.storage) bs place) (held storage)) (whole-area layout old c bytes is has copy) gave)

pub breaks-into : (layout : Layout) (old : RunUnit) (places : Places) (storage : held_by.Storage) (c : Channel) (place : Place) (bytes : List ℕ) (e : RunFault) (met : StepFault) → IsUnitOf layout old
    → HasRecord layout c → bytes ≡ read (held old.storage) (read_span (first old.storage) c.span) → met ≡ step_fault e → held storage ≡ held old.storage
    → Failed layout (λ (l : meant.Layout). move_group l (held old.storage) bytes place) e
    → Breaks layout old (record { places = places; storage = storage; store = old.store })
    (λ p day w. stored_by 0 w (move_group p.layout w.storage (read w.storage (record_span w (read_channel c))) place)) met
breaks-into layout old places storage c place bytes e met is has copy same stays fails =
    breaks-stored layout old places storage 0 (λ (l : meant.Layout) (st : Storage). move_group l st (area_of c st) place) e met same stays
    (subst (λ (bs : List ℕ). Failed layout (λ (l : meant.Layout). move_group l (held old.storage) bs place) e) (whole-area layout old c bytes is has copy) fails)

-- a fault that `?` passes on
pub carried : {T E : Type 0} (P : E → Type 0) (result : Result T E) (fault : E) → IsErrAnd result (λ e. e ≡ fault) → P fault → IfErr result P
carried P (Ok x) fault h p = record {}
carried P (Err e) fault h p = subst P (sym h) p
