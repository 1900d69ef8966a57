-- Words are found in the table of their first letter.
use Rattle.std.proofs.Common.{◌≡◌, ℕ, suc, ◌<◌, ◌≤◌, Bool, true, false, cond, leb, ◌&&◌, List, [], ◌∷◌, ◌++◌, length, get_or, ◌⊎◌, Option, Some, None, refl, sym, ap, ◌∙◌, inl, inr, arith}
use Rattle.std.specs.Str.{bytes_eq}
use Rattle.std.proofs.lemmas.Bool.{cases_Bool, cases_lt, and_parts, cond-true, cond-false, leb-true, and_left, ne_eqb, le-leb, lt-leb}
use Rattle.case_tables.specs.declared.word_table.WordRole.{WordRole}
use Rattle.case_tables.specs.declared.word_table.WordRow.{WordRow}
use Rattle.case_tables.specs.declared.reserved.TheConstants.{A_TO_B, C, D_TO_E, F_TO_I, J_TO_N, O_TO_Q, R, S, T_TO_Z}
use Rattle.case_tables.specs.Table.{word_of, role_in}
use Rattle.case_tables.specs.Reserved.{reserved_rows, role_of, by_letter, in_a_to_b, in_c, in_d_to_e, in_f_to_i, in_j_to_n, in_o_to_q, in_r, in_s, in_t_to_z}

-- the text begins with a byte from low to high
abbrev begins_within : ℕ → ℕ → List ℕ → Bool
begins_within low high [] = false
begins_within low high (c ∷ cs) = leb low c && leb c high

-- each row's word does
abbrev all_within : ℕ → ℕ → List WordRow → Bool
all_within low high [] = true
all_within low high (row ∷ rows) = begins_within low high (word_of row) && all_within low high rows

other : (low high first : ℕ) (more text : List ℕ) → begins_within low high text ≡ true → (first < low) ⊎ (high < first) → bytes_eq text (first ∷ more) ≡ false
other low high first more [] begins out = absurd (cc)
other low high first more (c ∷ cs) begins out =
    let parts = and_parts _ _ begins in
    let above = leb-true low c parts.0 in
    let below = leb-true c high parts.1 in
    and_left _ _ (ne_eqb c first (λ e. elim out [
      | inl under ↦ omega arith
      | inr over ↦ omega arith
    ]))

-- a word that begins otherwise is in no row
outside : (low high first : ℕ) (more : List ℕ) (rows : List WordRow) → all_within low high rows ≡ true → (first < low) ⊎ (high < first) → role_in (first ∷ more) rows ≡ None
outside low high first more [] all out = refl
outside low high first more (row ∷ rows) all out =
    let parts = and_parts _ _ all in
    cond-false _ _ _ (other low high first more (word_of row) parts.0 out) ∙ outside low high first more rows parts.1 out

role_in-front : (word : List ℕ) (xs ys : List WordRow) → role_in word xs ≡ None → role_in word (xs ++ ys) ≡ role_in word ys
role_in-front word [] ys none = refl
role_in-front word (x ∷ xs) ys none =
    elim (cases_Bool (bytes_eq (word_of x) word)) [
      | inl here ↦ let found : Some x.role ≡ None = sym (cond-true _ _ _ here) ∙ none in absurd (cc)
      | inr there ↦ cond-false _ _ _ there ∙ role_in-front word xs ys (sym (cond-false _ _ _ there) ∙ none)
    ]

role_in-back : (word : List ℕ) (xs ys : List WordRow) → role_in word ys ≡ None → role_in word (xs ++ ys) ≡ role_in word xs
role_in-back word [] ys none = none
role_in-back word (x ∷ xs) ys none =
    ap (λ (o : Option WordRole). cond (bytes_eq (word_of x) word) (Some x.role) o) (role_in-back word xs ys none)

-- rows up to a first letter, and rows past it
step : (low high first : ℕ) (more : List ℕ) (xs ys : List WordRow) → all_within low high xs ≡ true → all_within (suc high) 90 ys ≡ true
    → role_in (first ∷ more) (xs ++ ys) ≡ cond (leb first high) (role_in (first ∷ more) xs) (role_in (first ∷ more) ys)
step low high first more xs ys front back =
    elim (cases_lt high first) [
      | inl past ↦ role_in-front _ xs ys (outside low high first more xs front (inr past)) ∙ sym (cond-false _ _ _ (lt-leb first high past))
      | inr within ↦ role_in-back _ xs ys (outside (suc high) 90 first more ys back (inl (omega arith))) ∙ sym (cond-true _ _ _ (le-leb first high within))
    ]

other-empty : (low high : ℕ) (text : List ℕ) → begins_within low high text ≡ true → bytes_eq text [] ≡ false
other-empty low high [] begins = absurd (cc)
other-empty low high (c ∷ cs) begins = refl

none-empty : (low high : ℕ) (rows : List WordRow) → all_within low high rows ≡ true → role_in [] rows ≡ None
none-empty low high [] all = refl
none-empty low high (row ∷ rows) all =
    let parts = and_parts _ _ all in
    cond-false _ _ _ (other-empty low high (word_of row) parts.0) ∙ none-empty low high rows parts.1

abbrev from_s : List WordRow
from_s = S.rows ++ T_TO_Z.rows

abbrev from_r : List WordRow
from_r = R.rows ++ from_s

abbrev from_o_to_q : List WordRow
from_o_to_q = O_TO_Q.rows ++ from_r

abbrev from_j_to_n : List WordRow
from_j_to_n = J_TO_N.rows ++ from_o_to_q

abbrev from_f_to_i : List WordRow
from_f_to_i = F_TO_I.rows ++ from_j_to_n

abbrev from_d_to_e : List WordRow
from_d_to_e = D_TO_E.rows ++ from_f_to_i

abbrev from_c : List WordRow
from_c = C.rows ++ from_d_to_e

abbrev from_a_to_b : List WordRow
from_a_to_b = A_TO_B.rows ++ from_c

module _ (first : ℕ) (more : List ℕ) where
  s-role : role_in (first ∷ more) from_s ≡ cond (leb first 83) (role_in (first ∷ more) S.rows) (role_in (first ∷ more) T_TO_Z.rows)
  s-role = step 83 83 first more S.rows T_TO_Z.rows refl refl

  r-role : role_in (first ∷ more) from_r ≡ cond (leb first 82) (role_in (first ∷ more) R.rows) (cond (leb first 83) (role_in (first ∷ more) S.rows) (role_in (first ∷ more) T_TO_Z.rows))
  r-role = step 82 82 first more R.rows from_s refl refl ∙ ap (λ (o : Option WordRole). cond (leb first 82) (role_in (first ∷ more) R.rows) o) s-role

  o_to_q-role : role_in (first ∷ more) from_o_to_q ≡ cond (leb first 81) (role_in (first ∷ more) O_TO_Q.rows) (cond (leb first 82) (role_in (first ∷ more) R.rows) (cond (leb first 83) (role_in (first ∷ more) S.rows) (role_in (first ∷ more) T_TO_Z.rows)))
  o_to_q-role = step 79 81 first more O_TO_Q.rows from_r refl refl ∙ ap (λ (o : Option WordRole). cond (leb first 81) (role_in (first ∷ more) O_TO_Q.rows) o) r-role

  j_to_n-role : role_in (first ∷ more) from_j_to_n ≡ cond (leb first 78) (role_in (first ∷ more) J_TO_N.rows) (cond (leb first 81) (role_in (first ∷ more) O_TO_Q.rows) (cond (leb first 82) (role_in (first ∷ more) R.rows) (cond (leb first 83) (role_in (first ∷ more) S.rows) (role_in (first ∷ more) T_TO_Z.rows))))
  j_to_n-role = step 74 78 first more J_TO_N.rows from_o_to_q refl refl ∙ ap (λ (o : Option WordRole). cond (leb first 78) (role_in (first ∷ more) J_TO_N.rows) o) o_to_q-role

  f_to_i-role : role_in (first ∷ more) from_f_to_i ≡ cond (leb first 73) (role_in (first ∷ more) F_TO_I.rows) (cond (leb first 78) (role_in (first ∷ more) J_TO_N.rows) (cond (leb first 81) (role_in (first ∷ more) O_TO_Q.rows) (cond (leb first 82) (role_in (first ∷ more) R.rows) (cond (leb first 83) (role_in (first ∷ more) S.rows) (role_in (first ∷ more) T_TO_Z.rows)))))
  f_to_i-role = step 70 73 first more F_TO_I.rows from_j_to_n refl refl ∙ ap (λ (o : Option WordRole). cond (leb first 73) (role_in (first ∷ more) F_TO_I.rows) o) j_to_n-role

  d_to_e-role : role_in (first ∷ more) from_d_to_e ≡ cond (leb first 69) (role_in (first ∷ more) D_TO_E.rows) (cond (leb first 73) (role_in (first ∷ more) F_TO_I.rows) (cond (leb first 78) (role_in (first ∷ more) J_TO_N.rows) (cond (leb first 81) (role_in (first ∷ more) O_TO_Q.rows) (cond (leb first 82) (role_in (first ∷ more) R.rows) (cond (leb first 83) (role_in (first ∷ more) S.rows) (role_in (first ∷ more) T_TO_Z.rows))))))
  d_to_e-role = step 68 69 first more D_TO_E.rows from_f_to_i refl refl ∙ ap (λ (o : Option WordRole). cond (leb first 69) (role_in (first ∷ more) D_TO_E.rows) o) f_to_i-role

  c-role : role_in (first ∷ more) from_c ≡ cond (leb first 67) (role_in (first ∷ more) C.rows) (cond (leb first 69) (role_in (first ∷ more) D_TO_E.rows) (cond (leb first 73) (role_in (first ∷ more) F_TO_I.rows) (cond (leb first 78) (role_in (first ∷ more) J_TO_N.rows) (cond (leb first 81) (role_in (first ∷ more) O_TO_Q.rows) (cond (leb first 82) (role_in (first ∷ more) R.rows) (cond (leb first 83) (role_in (first ∷ more) S.rows) (role_in (first ∷ more) T_TO_Z.rows)))))))
  c-role = step 67 67 first more C.rows from_d_to_e refl refl ∙ ap (λ (o : Option WordRole). cond (leb first 67) (role_in (first ∷ more) C.rows) o) d_to_e-role

  a_to_b-role : role_in (first ∷ more) from_a_to_b ≡ cond (leb first 66) (role_in (first ∷ more) A_TO_B.rows) (cond (leb first 67) (role_in (first ∷ more) C.rows) (cond (leb first 69) (role_in (first ∷ more) D_TO_E.rows) (cond (leb first 73) (role_in (first ∷ more) F_TO_I.rows) (cond (leb first 78) (role_in (first ∷ more) J_TO_N.rows) (cond (leb first 81) (role_in (first ∷ more) O_TO_Q.rows) (cond (leb first 82) (role_in (first ∷ more) R.rows) (cond (leb first 83) (role_in (first ∷ more) S.rows) (role_in (first ∷ more) T_TO_Z.rows))))))))
  a_to_b-role = step 65 66 first more A_TO_B.rows from_c refl refl ∙ ap (λ (o : Option WordRole). cond (leb first 66) (role_in (first ∷ more) A_TO_B.rows) o) c-role

  pub by_letter-is : by_letter first (first ∷ more) ≡ role_of (first ∷ more)
  unfolding by_letter role_of reserved_rows in_a_to_b in_c in_d_to_e in_f_to_i in_j_to_n in_o_to_q in_r in_s in_t_to_z
  by_letter-is = sym a_to_b-role

pub role_of-empty : role_of [] ≡ None
unfolding role_of reserved_rows
role_of-empty = none-empty 65 90 reserved_rows refl

pub role_of-none : (word : List ℕ) → length word < 1 → role_of word ≡ None
role_of-none [] below = role_of-empty
role_of-none (first ∷ more) below = absurd (omega arith)

pub by_letter-first : (word : List ℕ) → 1 ≤ length word → by_letter (get_or word 0 0) word ≡ role_of word
by_letter-first [] some = absurd (omega arith)
by_letter-first (first ∷ more) some = by_letter-is first more
