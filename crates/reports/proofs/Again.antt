-- The reports are read again as their rows.
use Rattle.std.proofs.Common.{◌≡◌, ◌≤◌, ◌+◌, ◌++◌, ◌∷◌, [], ℕ, List, Some, None, true, false, slice_get, length, map, refl, sym, ap, ◌∙◌, subst, arith}
use Rattle.std.specs.List.{AllByRecursion}
use Rattle.csv.proofs.RoundTrip.{read-write}
use Rattle.csv.specs.Machine.{next_record}
use Rattle.csv.specs.Reading.{Reached, default_config, strip_bom}
use Rattle.csv.specs.declared.parser.State.TheVariants as st
use Rattle.year_labels.specs.declared.label.Fact.{Fact}
use Rattle.conflict_chain.specs.declared.chain.ChainStep.{ChainStep}
use Rattle.conflict_chain.specs.declared.chain.Conflict.{Conflict}
use Rattle.reports.proofs.Csv.{default_row}
use Rattle.reports.specs.Conflicts.{Known, conflict_header, rows_from, side_rows}
use Rattle.reports.specs.Labels.{label_header, label_row}
use Rattle.reports.specs.Rows.{ReadsAs, row_text, rows_text}
use Rattle.std.specs.List.{flat_map}
use Rattle.std.specs.Prelude.{Option}
use Rattle.y2k_base.specs.declared.text.Text.{Text}
use Rattle.cobol_syntax.specs.declared.program.Program.{Program}
use Rattle.data_layout.specs.declared.item.Item.{Item}
use Rattle.data_layout.specs.declared.portfolio.Portfolio.{Portfolio}
use Rattle.window_modes.specs.declared.modes.YearMode.{YearMode}
use Rattle.year_index.specs.Years.{years_in}
use Rattle.reports.specs.declared.items.ItemStart.{ItemStart}
use Rattle.std.specs.Prelude.{Bool}
use Rattle.reports.specs.Plans.{row_of, row_if, rows_if, rows_at, item_at, plan_table, are_windowed, row_by}
use Rattle.reports.specs.declared.names.AreaName.{AreaName}

abbrev IsLong : List (List ℕ) → Type 0
IsLong row = 2 ≤ length row

abbrev AreLong : List (List (List ℕ)) → Type 0
AreLong rows = AllByRecursion IsLong rows

-- a row is read from the front of a text
read_row : (row : List (List ℕ)) (tail : List ℕ) → IsLong row → next_record default_config st.StartRecord [] [] (row_text row ++ tail) ≡ Some (row, st.StartRecord, tail)
read_row [] tail long = absurd (omega (arith, long))
read_row (field ∷ fields) tail long =
    ap (λ (text : List ℕ). next_record default_config st.StartRecord [] [] (text ++ tail)) (sym (default_row (field ∷ fields) long))
    ∙ read-write (field ∷ fields) tail

reached : (rows : List (List (List ℕ))) → AreLong rows → Reached default_config st.StartRecord (rows_text rows) rows st.StartRecord []
unfolding Reached
reached [] long = (refl, refl)
reached (row ∷ rows) long = ((row, st.StartRecord, rows_text rows), read_row row (rows_text rows) long.0, refl, reached rows long.1)

none_left : next_record default_config st.StartRecord [] [] [] ≡ None
unfolding next_record
none_left = refl

reads_as : (rows : List (List (List ℕ))) → strip_bom (rows_text rows) ≡ rows_text rows → AreLong rows → ReadsAs (rows_text rows) rows
reads_as rows front long = (st.StartRecord, [], subst (λ (text : List ℕ). Reached default_config st.StartRecord text rows st.StartRecord []) (sym front) (reached rows long), none_left)

long_labels : (names : List AreaName) (facts : List Fact) → AreLong (map (label_row names) facts)
long_labels names [] = tt
long_labels names (f ∷ facts) = (omega arith, long_labels names facts)

pub labels_again : (names : List AreaName) (facts : List Fact) (text : List ℕ) → text ≡ rows_text (label_header ∷ map (label_row names) facts) → ReadsAs text (label_header ∷ map (label_row names) facts)
unfolding strip_bom
labels_again names facts text e =
    let rows : List (List (List ℕ)) = label_header ∷ map (label_row names) facts in
    subst (λ (t : List ℕ). ReadsAs t rows) (sym e) (reads_as rows refl (omega arith, long_labels names facts))

long_side : (known : Known) (conflict side number : ℕ) (steps : List ChainStep) → AreLong (side_rows known conflict side number steps)
long_side known conflict side number [] = tt
long_side known conflict side number (step ∷ steps) = (omega arith, long_side known conflict side (number + 1) steps)

long_both : (rows others : List (List (List ℕ))) → AreLong rows → AreLong others → AreLong (rows ++ others)
long_both [] others a b = b
long_both (row ∷ rows) others a b = (a.0, long_both rows others a.1 b)

long_rows : (known : Known) (number : ℕ) (conflicts : List Conflict) → AreLong (rows_from known number conflicts)
long_rows known number [] = tt
long_rows known number (conflict ∷ conflicts) =
    long_both _ _
    (long_both _ _ (long_side known number 1 1 conflict.chain1.steps) (long_side known number 2 1 conflict.chain2.steps))
    (long_rows known (number + 1) conflicts)

pub conflicts_again : (known : Known) (conflicts : List Conflict) (text : List ℕ) → text ≡ rows_text (conflict_header ∷ rows_from known 1 conflicts) → ReadsAs text (conflict_header ∷ rows_from known 1 conflicts)
unfolding strip_bom
conflicts_again known conflicts text e =
    let rows : List (List (List ℕ)) = conflict_header ∷ rows_from known 1 conflicts in
    subst (λ (t : List ℕ). ReadsAs t rows) (sym e) (reads_as rows refl (omega arith, long_rows known 1 conflicts))

long_if : (modes : List YearMode) (row : List (List ℕ)) → IsLong row → AreLong (row_if modes row)
long_if [] row long = tt
long_if (mode ∷ modes) row long = (long, tt)

long_by : (texts : List Text) (program : Program) (modes : List YearMode) (item : Item) (windowed : Bool) → IsLong (row_by texts program modes item windowed)
long_by texts program modes item true = omega arith
long_by texts program modes item false = omega arith

long_row : (texts : List Text) (program : Program) (modes : List YearMode) (item : Item) → IsLong (row_of texts program modes item)
long_row texts program modes item = long_by texts program modes item (are_windowed (years_in modes item.span))

long_found : (texts : List Text) (program : Option Program) (modes : List YearMode) (item : Option Item) → AreLong (rows_if texts program modes item)
long_found texts None modes item = tt
long_found texts (Some program) modes None = tt
long_found texts (Some program) modes (Some item) = long_if (years_in modes item.span) (row_of texts program modes item) (long_row texts program modes item)

long_starts : (texts : List Text) (portfolio : Portfolio) (modes : List YearMode) (starts : List ItemStart) → AreLong (flat_map (rows_at texts portfolio modes) starts)
long_starts texts portfolio modes [] = tt
long_starts texts portfolio modes (start ∷ starts) =
    long_both _ _ (long_found texts (slice_get portfolio.programs start.program) modes (item_at portfolio.layouts start)) (long_starts texts portfolio modes starts)

pub plan_again : (texts : List Text) (portfolio : Portfolio) (modes : List YearMode) (starts : List ItemStart) (text : List ℕ) → text ≡ rows_text (plan_table texts portfolio modes starts)
    → ReadsAs text (plan_table texts portfolio modes starts)
unfolding strip_bom
plan_again texts portfolio modes starts text e =
    let rows : List (List (List ℕ)) = plan_table texts portfolio modes starts in
    subst (λ (t : List ℕ). ReadsAs t rows) (sym e) (reads_as rows refl (omega arith, long_starts texts portfolio modes starts))
