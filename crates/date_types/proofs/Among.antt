-- The rules of tables and of files are among those of the portfolio, and say what they are for.
use Rattle.std.proofs.Common.{◌≡◌, ◌⊎◌, inl, inr, ℕ, zero, suc, ◌+◌, ◌<◌, Bool, true, List, [], ◌∷◌, ◌++◌, length, Contains, Option, Some, None, sym, subst, refl, arith, if◌then◌else◌}
use Rattle.std.specs.Prelude.{slice_get, slice_index_or}
use Rattle.std.proofs.lemmas.List.Elements.{Contains-push, Contains-append_left, Contains-append_right}
use Rattle.y2k_base.specs.declared.place.Span.{Span}
use Rattle.y2k_base.specs.declared.word.Origin.{Origin}
use Rattle.y2k_base.specs.declared.word.Word.{Word}
use Rattle.cobol_syntax.specs.declared.program.Program.{Program}
use Rattle.data_layout.specs.declared.item.Item.{Item}
use Rattle.data_layout.specs.declared.item.Step.{Step}
use Rattle.data_layout.specs.declared.item.Layout.{Layout}
use Rattle.data_layout.specs.declared.portfolio.FileUse.{FileUse}
use Rattle.data_layout.specs.declared.portfolio.FileArea.{FileArea}
use Rattle.data_layout.specs.declared.portfolio.Portfolio.{Portfolio}
use Rattle.year_labels.specs.declared.rule.Rule.TheVariants as rule_names
use Rattle.year_labels.specs.declared.rule.RuleForm.TheVariants as forms
use Rattle.year_labels.specs.declared.rule.RuleInst.{RuleInst}
use Rattle.year_labels.specs.Facts.{fact_in}
use Rattle.date_views.specs.Uses.{inst}
use Rattle.statement_rules.specs.Statements.{origin_at}
use Rattle.date_types.specs.Tables.{own_step, repeats, table_inst, table_rule, table_rules, area_entry, record_of, same_file, later_rules, file_rule, file_rules}
use Rattle.date_types.specs.Pictures.{picture_rules}
use Rattle.date_types.specs.Programs.{items_rules, selects_rules, paragraphs_rules, program_rules, programs_rules}
use Rattle.date_types.specs.Whole.{rules}
use Rattle.date_types.specs.Alike.{AreAlike}
use Rattle.date_types.specs.Laws.{AreTablesAlike, AreFilesAlike}
use Rattle.date_types.proofs.Occurrences.{occurrences_alike}

cases_at : {X : Type 0} (x z : X) (xs : List X) (k : ℕ) → k < length (x ∷ xs) → slice_index_or (x ∷ xs) k z ≡ z → (x ≡ z) ⊎ Contains xs z
cases_at x z xs zero l e = inl e
cases_at x z xs (suc k) l e = inr (k, omega arith, e)

pub first_or_later : {X : Type 0} (x z : X) (xs : List X) → Contains (x ∷ xs) z → (x ≡ z) ⊎ Contains xs z
first_or_later x z xs h = cases_at x z xs h.0 h.1 h.2

there_later : (portfolio : Portfolio) (bytes : ℕ) (first : FileArea) (uses : List FileArea) (later : FileArea) → Contains uses later → Contains (later_rules portfolio bytes first uses) (same_file portfolio bytes first later)
there_later portfolio bytes first [] later h = absurd (omega (arith, h.1))
there_later portfolio bytes first (u ∷ uses) later h =
    elim (first_or_later u later uses h) [
      | inl is ↦ subst (λ (x : FileArea). Contains (later_rules portfolio bytes first (u ∷ uses)) (same_file portfolio bytes first x)) is
          (Contains-append_left (same_file portfolio bytes first u ∷ []) (later_rules portfolio bytes first uses) (same_file portfolio bytes first u) (Contains-push [] (same_file portfolio bytes first u)))
      | inr after ↦ Contains-append_right (same_file portfolio bytes first u ∷ []) (later_rules portfolio bytes first uses) (same_file portfolio bytes first later) (there_later portfolio bytes first uses later after)
    ]

module _ (given : List RuleInst) where
  forward : (at : Origin) (a b : Span) → Contains given (inst rule_names.File at (forms.Alike a b)) → AreAlike given a b
  forward at a b there = λ facts closed k label lt known. closed (inst rule_names.File at (forms.Alike a b)) (fact_in b k label) there (inl (k, label, lt, known, refl))

  backward : (at : Origin) (a b : Span) → Contains given (inst rule_names.File at (forms.Alike a b)) → AreAlike given b a
  backward at a b there = λ facts closed k label lt known. closed (inst rule_names.File at (forms.Alike a b)) (fact_in a k label) there (inr (k, label, lt, known, refl))

  module _ (portfolio : Portfolio) (bytes : ℕ) (first : FileArea) (uses : List FileArea) (sub : (r : RuleInst) → Contains (later_rules portfolio bytes first uses) r → Contains given r) where
    from_first : (a : FileArea) → Contains (first ∷ uses) a → AreAlike given (record_of first bytes) (record_of a bytes)
    from_first a h = elim (first_or_later first a uses h) [
      | inl is ↦ subst (λ (x : FileArea). AreAlike given (record_of first bytes) (record_of x bytes)) is (λ facts closed k label lt known. known)
      | inr later ↦ forward (area_entry portfolio a) (record_of first bytes) (record_of a bytes) (sub _ (there_later portfolio bytes first uses a later))
    ]

    to_first : (a : FileArea) → Contains (first ∷ uses) a → AreAlike given (record_of a bytes) (record_of first bytes)
    to_first a h = elim (first_or_later first a uses h) [
      | inl is ↦ subst (λ (x : FileArea). AreAlike given (record_of x bytes) (record_of first bytes)) is (λ facts closed k label lt known. known)
      | inr later ↦ backward (area_entry portfolio a) (record_of first bytes) (record_of a bytes) (sub _ (there_later portfolio bytes first uses a later))
    ]

  any_two : (portfolio : Portfolio) (bytes : ℕ) (areas : List FileArea) → ((r : RuleInst) → Contains (file_rule portfolio bytes areas) r → Contains given r) → (a b : FileArea) → Contains areas a → Contains areas b → AreAlike given (record_of a bytes) (record_of b bytes)
  any_two portfolio bytes [] sub a b ha hb = absurd (omega (arith, ha.1))
  any_two portfolio bytes (first ∷ uses) sub a b ha hb = λ facts closed k label lt known.
      from_first portfolio bytes first uses sub b hb facts closed k label lt (to_first portfolio bytes first uses sub a ha facts closed k label lt known)

there_file : (portfolio : Portfolio) (files : List FileUse) (file : FileUse) → Contains files file → (r : RuleInst) → Contains (file_rule portfolio file.length file.areas) r → Contains (file_rules portfolio files) r
there_file portfolio [] file h r there = absurd (omega (arith, h.1))
there_file portfolio (f ∷ files) file h r there =
    elim (first_or_later f file files h) [
      | inl is ↦ Contains-append_left (file_rule portfolio f.length f.areas) (file_rules portfolio files) r (subst (λ (x : FileUse). Contains (file_rule portfolio x.length x.areas) r) (sym is) there)
      | inr later ↦ Contains-append_right (file_rule portfolio f.length f.areas) (file_rules portfolio files) r (there_file portfolio files file later r there)
    ]

pub files_alike : (portfolio : Portfolio) → AreFilesAlike portfolio (rules portfolio)
files_alike portfolio = λ file a b hf ha hb.
    any_two (rules portfolio) portfolio file.length file.areas
    (λ r h. Contains-append_right (programs_rules portfolio.programs portfolio.layouts) (file_rules portfolio portfolio.files ++ picture_rules portfolio.programs portfolio.layouts) r
    (Contains-append_left (file_rules portfolio portfolio.files) (picture_rules portfolio.programs portfolio.layouts) r (there_file portfolio portfolio.files file hf r h)))
    a b ha hb

there_table_rule : (at : Origin) (span : Span) (own : Option Step) (step : Step) → own ≡ Some step → repeats span step ≡ true → Contains (table_rule at span own) (table_inst at span step)
there_table_rule at span own step e r =
    subst (λ (o : Option Step). Contains (table_rule at span o) (table_inst at span step)) (sym e)
    (subst (λ (b : Bool). Contains (if b then table_inst at span step ∷ [] else []) (table_inst at span step)) (sym r) (Contains-push [] (table_inst at span step)))

there_table : (all : List Item) (words : List Word) (items : List Item) (item : Item) (step : Step) → Contains items item → own_step all item ≡ Some step → repeats item.span step ≡ true
    → Contains (table_rules all words items) (table_inst (origin_at words item.entry_at) item.span step)
there_table all words [] item step h e r = absurd (omega (arith, h.1))
there_table all words (i ∷ items) item step h e r =
    elim (first_or_later i item items h) [
      | inl is ↦ Contains-append_left (table_rule (origin_at words i.entry_at) i.span (own_step all i)) (table_rules all words items) _
          (subst (λ (x : Item). Contains (table_rule (origin_at words x.entry_at) x.span (own_step all x)) (table_inst (origin_at words item.entry_at) item.span step)) (sym is)
          (there_table_rule (origin_at words item.entry_at) item.span (own_step all item) step e r))
      | inr later ↦ Contains-append_right (table_rule (origin_at words i.entry_at) i.span (own_step all i)) (table_rules all words items) _ (there_table all words items item step later e r)
    ]

there_program : (program : Program) (layout : Layout) (r : RuleInst) → Contains (table_rules layout.items program.words layout.items) r → Contains (program_rules program layout) r
there_program program layout r h =
    Contains-append_right (items_rules program.words layout.items) (table_rules layout.items program.words layout.items ++ (selects_rules layout program.words program.selects ++ paragraphs_rules layout program.words program.paragraphs)) r
    (Contains-append_left (table_rules layout.items program.words layout.items) (selects_rules layout program.words program.selects ++ paragraphs_rules layout program.words program.paragraphs) r h)

there_programs : (programs : List Program) (layouts : List Layout) (n : ℕ) (program : Program) (layout : Layout) → slice_get programs n ≡ Some program → slice_get layouts n ≡ Some layout
    → (r : RuleInst) → Contains (program_rules program layout) r → Contains (programs_rules programs layouts) r
there_programs [] layouts n program layout e f r h = absurd (let wrong : None ≡ Some program = e in cc)
there_programs (p ∷ programs) [] n program layout e f r h = absurd (let wrong : None ≡ Some layout = f in cc)
there_programs (p ∷ programs) (l ∷ layouts) zero program layout e f r h =
    let one : p ≡ program = cc in
    let other : l ≡ layout = cc in
    Contains-append_left (program_rules p l) (programs_rules programs layouts) r
    (subst (λ (x : Program). Contains (program_rules x l) r) (sym one) (subst (λ (x : Layout). Contains (program_rules program x) r) (sym other) h))
there_programs (p ∷ programs) (l ∷ layouts) (suc n) program layout e f r h =
    Contains-append_right (program_rules p l) (programs_rules programs layouts) r (there_programs programs layouts n program layout e f r h)

pub tables_alike : (portfolio : Portfolio) → AreTablesAlike portfolio (rules portfolio)
tables_alike portfolio = λ n program layout item step e f there own far.
    occurrences_alike (rules portfolio) (origin_at program.words item.entry_at) item.span step
    (Contains-append_left (programs_rules portfolio.programs portfolio.layouts) (file_rules portfolio portfolio.files ++ picture_rules portfolio.programs portfolio.layouts) _
    (there_programs portfolio.programs portfolio.layouts n program layout e f _
    (there_program program layout _ (there_table layout.items program.words layout.items item step there own far))))
