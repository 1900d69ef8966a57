-- What flags say of operands, and what is made of them.
use Rattle.std.proofs.Common.{◌⊎◌, ◌↔◌, inl, inr, Bool, true, false, IsTrue, List, Option, Some, None, refl, sym, subst, Contains}
use Rattle.case_tables.specs.declared.row_table.Flags.{Flags}
use Rattle.case_tables.specs.declared.row_table.Known.{Known}
use Rattle.case_tables.specs.declared.row_table.Row.{Row}
use Rattle.case_tables.specs.declared.row_table.Test.{Test}
use Rattle.case_tables.specs.declared.row_table.Who.{Who}
use Rattle.case_tables.specs.declared.row_table.Who.TheVariants as whos
use Rattle.case_tables.specs.Rows as tables
use Rattle.year_labels.specs.declared.label.Fact.{Fact}
use Rattle.year_labels.specs.declared.rule.View.{View}
use Rattle.year_labels.specs.Forms.{IsFitView, IsByRows}
use Rattle.year_labels.specs.Operands.{Is, Makes, Holds, HoldsIf, operand}
use Rattle.label_spread.specs.Steps.{Adds, IsMade}
use Rattle.label_spread.proofs.Growth.{IsMonotone, Adds-alike, Adds-both}
use Rattle.label_spread.proofs.Local.{Fires-grows, Makes-monotone}

-- what holds of each operand's flags holds of each test
module _ (a b c : View) (known : List Fact) (seen : Known)
    (a_year : IsTrue seen.a.year ↔ Is known a true) (a_plain : IsTrue seen.a.plain ↔ Is known a false)
    (b_year : IsTrue seen.b.year ↔ Is known b true) (b_plain : IsTrue seen.b.plain ↔ Is known b false)
    (c_year : IsTrue seen.c.year ↔ Is known c true) (c_plain : IsTrue seen.c.plain ↔ Is known c false) where
  seen_by : (who : Who) (year : Bool) → IsTrue (tables.flag (tables.flags_of seen who) year) ↔ Is known (operand a b c who) year
  seen_by whos.A true = a_year
  seen_by whos.A false = a_plain
  seen_by whos.B true = b_year
  seen_by whos.B false = b_plain
  seen_by whos.C true = c_year
  seen_by whos.C false = c_plain

  pub seen_all : (test : Test) → tables.Holds seen test ↔ Holds a b c test known
  seen_all test = seen_by test.who test.year

IsMade-monotone : (view : View) (flags : Flags) → IsMonotone (IsMade view flags)
IsMade-monotone view flags xs ys f grows h = (h.0, h.1, Makes-monotone view h.0 xs ys f grows h.2)

-- a year if it is one, plain if it is plain
pub Adds-made : (view : View) (flags : Flags) (old mid new : List Fact)
    → Adds (λ xs f. IsTrue flags.year × Makes xs view true f) old mid → Adds (λ xs f. IsTrue flags.plain × Makes xs view false f) mid new → Adds (IsMade view flags) old new
Adds-made view flags old mid new year plain =
    let Y : List Fact → Fact → Type 0 = λ xs f. IsTrue flags.year × Makes xs view true f in
    let P : List Fact → Fact → Type 0 = λ xs f. IsTrue flags.plain × Makes xs view false f in
    let parted : (xs : List Fact) (f : Fact) (is_year : Bool) → IsTrue (tables.flag flags is_year) → Makes xs view is_year f → Y xs f ⊎ P xs f =
    λ xs f is_year. elim is_year as (λ (v : Bool). IsTrue (tables.flag flags v) → Makes xs view v f → Y xs f ⊎ P xs f) [
      | true ↦ λ t m. inl (t, m)
      | false ↦ λ t m. inr (t, m)
    ] in
    Adds-alike (λ xs f. Y xs f ⊎ P xs f) (IsMade view flags) old new
    (λ xs f known h. elim h [ inl y ↦ (true, y.0, y.1) | inr p ↦ (false, p.0, p.1) ])
    (λ f h. parted old f h.0 h.1 h.2)
    (Adds-both Y P old mid new (λ xs ys f grows h. (h.0, Makes-monotone view false xs ys f grows h.1)) year plain)

module _ (rows : List Row) (a b c : View) (old : List Fact) (seen given : Known) (fit : IsFitView a × IsFitView b × IsFitView c)
    (sees : (test : Test) → tables.Holds seen test ↔ Holds a b c test old)
    (gives : (test : Test) → tables.Holds given test ↔ tables.IsGiven rows seen test) where
  there_if : (test : Option Test) → tables.HoldsIf seen test → HoldsIf a b c test old
  there_if None h = h
  there_if (Some test) h = (sees test).0 h

  back_if : (test : Option Test) → HoldsIf a b c test old → tables.HoldsIf seen test
  back_if None h = h
  back_if (Some test) h = (sees test).1 h

  -- what is given to an operand follows by a row
  by_row : (xs : List Fact) (f : Fact) → ((g : Fact) → Contains old g → Contains xs g) → (who : Who) (year : Bool)
      → IsTrue (tables.flag (tables.flags_of given who) year) → Makes xs (operand a b c who) year f → IsByRows rows a b c xs f
  by_row xs f grows who year h makes =
      let test : Test = record { who = who; year = year } in
      let w : tables.IsGiven rows seen test = (gives test).0 h in (
        w.0,
        w.1,
        (
          Fires-grows old xs a b c w.0 fit grows ((sees w.0.if1).0 w.2.0, there_if w.0.if2 w.2.1),
          subst (λ (t : Test). Makes xs (operand a b c t.who) t.year f) (sym w.3) makes,
        ),
      )

  made_by : (f : Fact) (who : Who) (year : Bool) → IsTrue (tables.flag (tables.flags_of given who) year) → Makes old (operand a b c who) year f
      → (IsMade a given.a old f ⊎ IsMade b given.b old f) ⊎ IsMade c given.c old f
  made_by f whos.A year h makes = inl (inl (year, h, makes))
  made_by f whos.B year h makes = inl (inr (year, h, makes))
  made_by f whos.C year h makes = inr (year, h, makes)

  made_there : (xs : List Fact) (f : Fact) → ((g : Fact) → Contains old g → Contains xs g)
      → (IsMade a given.a xs f ⊎ IsMade b given.b xs f) ⊎ IsMade c given.c xs f → IsByRows rows a b c xs f
  made_there xs f grows (inl (inl h)) = by_row xs f grows whos.A h.0 h.1 h.2
  made_there xs f grows (inl (inr h)) = by_row xs f grows whos.B h.0 h.1 h.2
  made_there xs f grows (inr h) = by_row xs f grows whos.C h.0 h.1 h.2

  pub Adds-rows : (x y new : List Fact) → Adds (IsMade a given.a) old x → Adds (IsMade b given.b) x y → Adds (IsMade c given.c) y new → Adds (IsByRows rows a b c) old new
  Adds-rows x y new first second third =
      let A : List Fact → Fact → Type 0 = IsMade a given.a in
      let B : List Fact → Fact → Type 0 = IsMade b given.b in
      let C : List Fact → Fact → Type 0 = IsMade c given.c in
      Adds-alike (λ xs f. (A xs f ⊎ B xs f) ⊎ C xs f) (IsByRows rows a b c) old new
      made_there
      (λ f h. made_by f h.0.gives.who h.0.gives.year ((gives h.0.gives).1 (h.0, h.1, ((sees h.0.if1).1 h.2.0.0, back_if h.0.if2 h.2.0.1), refl)) h.2.1)
      (Adds-both (λ xs f. A xs f ⊎ B xs f) C old y new (IsMade-monotone c given.c)
      (Adds-both A B old x y (IsMade-monotone b given.b) first second) third)
