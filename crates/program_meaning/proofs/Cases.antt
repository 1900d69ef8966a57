-- Whole programs, with what they show and write after some numbers of steps, computed. What is expected comes from
-- another reading of the language than these definitions.
use Rattle.std.proofs.Common.{◌≡◌, ℕ, true, false, [], ◌∷◌, Some, None, refl}
use Rattle.std.specs.Prelude.{pos, neg_ℤ, codes}
use Rattle.program_meaning.specs.Answer as answer
use Rattle.program_meaning.specs.Tree.{Literal, Named, At, Number, Text, Figure, One, Minus, Add, Sub, Mul, Div, Equal, Less, Greater, Relation, Numeric, Alphabetic, Sign, Holds, Not, And, Or, Once, Times, Until, Input, Output, Extend, Date, Day, Time, Stated, Nil, Absent, Present, Through, Inline, Move, Compute, If, NextSentence, GoTo, Stop, Nothing, Perform, Open, Close, Read, Write, Accept, Show}
use Rattle.program_meaning.specs.Number as number
use Rattle.program_meaning.specs.Entries.{TextPicture, EditedPicture, NumberPicture}
use Rattle.program_meaning.specs.Portfolio.{Source}
use Rattle.program_meaning.specs.Files.{Closed}
use Rattle.program_meaning.specs.Job.{JobState, Ended, Failed, ends_of, shown_of}
use Rattle.program_meaning.specs.Job as job
use Rattle.program_meaning.proofs.Examples.{stated, second, block, place, qualified, subscripted, cut_place, part_of, at_place, integer, group, elementary, valued, values_of, piece, after_steps, held}

abbrev corners_first : Source
corners_first = record {
  selects = [];
  files = [];
  storage =
      (group 1 (codes "G")) ∷
      (record { level = 5; name = codes "T"; redefines = false; occurs = Some 2; picture = None; usage = number.Display; sign = number.Trailing; value = None; values = [] }) ∷
      (elementary 10 (codes "K") (NumberPicture (codes "9"))) ∷
      (values_of (codes "BIG") ((record { low = integer 5 1; high = Some (integer 9 1) }) ∷ [])) ∷
      (values_of (codes "NONE-AT-ALL") ((record { low = Figure 48; high = None }) ∷ [])) ∷
      (record { level = 5; name = codes "U"; redefines = false; occurs = None; picture = Some (NumberPicture (codes "9999")); usage = number.Binary; sign = number.Trailing; value = None; values = [] }) ∷
      (record { level = 5; name = codes "UX"; redefines = true; occurs = None; picture = Some (TextPicture (codes "XX")); usage = number.Display; sign = number.Trailing; value = None; values = [] }) ∷
      (record { level = 5; name = codes "V"; redefines = false; occurs = None; picture = Some (NumberPicture (codes "S999999999")); usage = number.Binary; sign = number.Trailing; value = None; values = [] }) ∷
      (record { level = 5; name = codes "W"; redefines = false; occurs = None; picture = Some (NumberPicture (codes "99999")); usage = number.Packed; sign = number.Trailing; value = None; values = [] }) ∷
      (record { level = 5; name = codes "WX"; redefines = true; occurs = None; picture = None; usage = number.Display; sign = number.Trailing; value = None; values = [] }) ∷
      (elementary 10 (codes "WA") (TextPicture (codes "X"))) ∷
      (elementary 10 (codes "WB") (TextPicture (codes "X"))) ∷
      (elementary 10 (codes "WC") (TextPicture (codes "X"))) ∷
      (valued 77 (codes "I") (NumberPicture (codes "99")) (integer 1 1)) ∷
      (elementary 77 (codes "E1") (EditedPicture (codes "Z,ZZ9,999"))) ∷
      (elementary 77 (codes "E2") (EditedPicture (codes "9B9/9,9.9-"))) ∷
      (record { level = 77; name = codes "L"; redefines = false; occurs = None; picture = Some (NumberPicture (codes "S99V9")); usage = number.Display; sign = number.Leading; value = Some (Number (neg_ℤ (pos 15)) 1 2); values = [] }) ∷
      (record { level = 77; name = codes "M"; redefines = false; occurs = None; picture = Some (NumberPicture (codes "S99")); usage = number.Display; sign = number.TrailingSeparate; value = None; values = [] }) ∷
      (valued 77 (codes "R") (NumberPicture (codes "V99")) (Number (pos 25) 2 2)) ∷
      (valued 77 (codes "S") (NumberPicture (codes "S999")) (Number (neg_ℤ (pos 12)) 0 2)) ∷
      (valued 77 (codes "X") (TextPicture (codes "XXXXXXXXXXXXXXXXXXXX")) (Text (codes "12345678901234567890"))) ∷
      (elementary 77 (codes "N") (NumberPicture (codes "999999999999999999"))) ∷
      (elementary 77 (codes "C") (NumberPicture (codes "999"))) ∷
      (valued 77 (codes "LEN") (NumberPicture (codes "99")) (integer 19 2)) ∷ [];
  paragraphs =
      (record { name = codes "ONE-PARA"; section = false; sentences = (block ((Stated (stated 0) (Move (integer 7 1) (subscripted ((codes "K") ∷ []) ((Literal 1) ∷ [])))) ∷ [])) ∷ (block ((Stated (stated 1) (Move (integer 0 1) (subscripted ((codes "K") ∷ []) ((Literal 2) ∷ [])))) ∷ [])) ∷ (block ((Stated (stated 2) (If (And (And (Holds (subscripted ((codes "BIG") ∷ []) ((Literal 1) ∷ []))) (Not (Holds (subscripted ((codes "BIG") ∷ []) ((Literal 2) ∷ []))))) (Holds (subscripted ((codes "NONE-AT-ALL") ∷ []) ((Literal 2) ∷ [])))) (block ((Stated (stated 3) (Show ((Text (codes "88")) ∷ []))) ∷ [])) Nil)) ∷ [])) ∷ (block ((Stated (stated 4) (Move (Figure 255) (place (codes "UX")))) ∷ [])) ∷ (block ((Stated (stated 5) (Show ((at_place (codes "U")) ∷ []))) ∷ [])) ∷ (block ((Stated (stated 6) (If (Sign (One (at_place (codes "U"))) Less) (block ((Stated (stated 7) (Show ((Text (codes "NEG")) ∷ []))) ∷ [])) Nil)) ∷ [])) ∷ (block ((Stated (stated 8) (Move (at_place (codes "U")) (place (codes "C")))) ∷ [])) ∷ (block ((Stated (stated 9) (Show ((at_place (codes "C")) ∷ []))) ∷ [])) ∷ (block ((Stated (stated 10) (Move (Number (neg_ℤ (pos 70000)) 0 5) (place (codes "V")))) ∷ [])) ∷ (block ((Stated (stated 11) (Move (at_place (codes "V")) (place (codes "U")))) ∷ [])) ∷ (block ((Stated (stated 12) (Show ((at_place (codes "U")) ∷ (at_place (codes "V")) ∷ []))) ∷ [])) ∷ (block ((Stated (stated 13) (Move (integer 65535 5) (place (codes "U")))) ∷ [])) ∷ (block ((Stated (stated 14) (Show ((at_place (codes "U")) ∷ []))) ∷ [])) ∷ (block ((Stated (stated 15) (Move (integer 12345 5) (place (codes "W")))) ∷ [])) ∷ (block ((Stated (stated 16) (Move (Text (codes "]")) (place (codes "WC")))) ∷ [])) ∷ (block ((Stated (stated 17) (Show ((at_place (codes "W")) ∷ []))) ∷ [])) ∷ (block ((Stated (stated 18) (Compute (place (codes "S")) false (Add (One (at_place (codes "W"))) (One (at_place (codes "S")))) None Absent)) ∷ [])) ∷ (block ((Stated (stated 19) (Show ((at_place (codes "S")) ∷ []))) ∷ [])) ∷ (block ((Stated (stated 20) (Move (integer 1234567 7) (place (codes "E1")))) ∷ [])) ∷ (block ((Stated (stated 21) (Show ((at_place (codes "E1")) ∷ []))) ∷ [])) ∷ (block ((Stated (stated 22) (Move (integer 12 2) (place (codes "E1")))) ∷ [])) ∷ (block ((Stated (stated 23) (Show ((at_place (codes "E1")) ∷ []))) ∷ [])) ∷ (block ((Stated (stated 24) (Move (Number (neg_ℤ (pos 12345)) 2 5) (place (codes "E2")))) ∷ [])) ∷ (block ((Stated (stated 25) (Show ((at_place (codes "E2")) ∷ []))) ∷ [])) ∷ (block ((Stated (stated 26) (Show ((at_place (codes "L")) ∷ []))) ∷ [])) ∷ (block ((Stated (stated 27) (Move (at_place (codes "L")) (place (codes "M")))) ∷ [])) ∷ (block ((Stated (stated 28) (Show ((at_place (codes "M")) ∷ []))) ∷ [])) ∷ (block ((Stated (stated 29) (Compute (place (codes "L")) false (Add (One (at_place (codes "R"))) (One (at_place (codes "L")))) None Absent)) ∷ [])) ∷ (block ((Stated (stated 30) (Show ((at_place (codes "L")) ∷ []))) ∷ [])) ∷ (block ((Stated (stated 31) (Compute (place (codes "L")) true (Mul (One (at_place (codes "R"))) (One (Number (neg_ℤ (pos 10)) 0 2))) None Absent)) ∷ [])) ∷ (block ((Stated (stated 32) (Show ((at_place (codes "L")) ∷ []))) ∷ [])) ∷ (block ((Stated (stated 33) (Compute (place (codes "C")) false (Div (One (integer 17 2)) (One (integer 5 1))) (Some (place (codes "M"))) (Present (block ((Stated (stated 34) (Show ((Text (codes "S")) ∷ []))) ∷ [])) (block ((Stated (stated 35) (Show ((Text (codes "OK")) ∷ (at_place (codes "C")) ∷ (at_place (codes "M")) ∷ []))) ∷ []))))) ∷ [])) ∷ (block ((Stated (stated 36) (Compute (place (codes "C")) false (Div (One (integer 1700 4)) (One (integer 1 1))) (Some (place (codes "M"))) (Present (block ((Stated (stated 37) (Show ((Text (codes "S")) ∷ (at_place (codes "C")) ∷ (at_place (codes "M")) ∷ []))) ∷ [])) Nil))) ∷ [])) ∷ (block ((Stated (stated 38) (Perform (Through (codes "TWO-PARA") (codes "TWO-PARA")) (Until true (Relation (One (at_place (codes "I"))) Greater (One (integer 2 1))) (Some (record { item = place (codes "I"); from = integer 1 1; by = integer 1 1 }))))) ∷ [])) ∷ (block ((Stated (stated 39) (Perform (Through (codes "TWO-PARA") (codes "TWO-PARA")) (Until false (Relation (One (at_place (codes "C"))) Equal (One (integer 1 1))) (Some (record { item = place (codes "C"); from = integer 3 1; by = Number (neg_ℤ (pos 1)) 0 1 }))))) ∷ [])) ∷ (block ((Stated (stated 40) (If (Numeric (cut_place (codes "X") 1 18)) (block ((Stated (stated 41) (Move (At (cut_place (codes "X") 1 18)) (place (codes "N")))) ∷ [])) Nil)) ∷ [])) ∷ (block ((Stated (stated 42) (Show ((at_place (codes "N")) ∷ []))) ∷ [])) ∷ (block ((Stated (stated 43) (If (Or (Relation (One (at_place (codes "X"))) Equal (One (Figure 32))) (Relation (Add (One (at_place (codes "I"))) (One (integer 1 1))) Equal (One (integer 4 1)))) (block ((Stated (stated 44) (Show ((Text (codes "OR")) ∷ []))) ∷ [])) Nil)) ∷ [])) ∷ (block ((Stated (stated 45) (Move (At (part_of ((codes "X") ∷ []) [] (record { start = Literal 2; length = Some (Named ((codes "LEN") ∷ [])) }))) (place (codes "N")))) ∷ [])) ∷ [] }) ∷
      (record { name = codes "TWO-PARA"; section = false; sentences = (block ((Stated (stated 46) (Show ((Text (codes "TWO")) ∷ (at_place (codes "I")) ∷ (at_place (codes "C")) ∷ []))) ∷ [])) ∷ [] }) ∷ [];
}

abbrev corners_after : ℕ → JobState
corners_after = after_steps (corners_first ∷ []) []

pub corners-ends_20 : ends_of (corners_after 20) ≡ job.Open ∷ []
corners-ends_20 = refl

pub corners-shown_20 : shown_of (corners_after 20) ≡ (piece (stated 3) ((codes "88") ∷ [])) ∷ (piece (stated 5) ((codes "-0001") ∷ [])) ∷ (piece (stated 7) ((codes "NEG") ∷ [])) ∷ (piece (stated 9) ((codes "001") ∷ [])) ∷ (piece (stated 12) ((codes "0000") ∷ (codes "-000070000") ∷ [])) ∷ (piece (stated 14) ((codes "5535") ∷ [])) ∷ (piece (stated 17) ((codes "-12345") ∷ [])) ∷ (piece (stated 19) ((codes "35w") ∷ [])) ∷ []
corners-shown_20 = refl

pub corners-ends_31 : ends_of (corners_after 31) ≡ job.Open ∷ []
corners-ends_31 = refl

pub corners-shown_31 : shown_of (corners_after 31) ≡ (piece (stated 3) ((codes "88") ∷ [])) ∷ (piece (stated 5) ((codes "-0001") ∷ [])) ∷ (piece (stated 7) ((codes "NEG") ∷ [])) ∷ (piece (stated 9) ((codes "001") ∷ [])) ∷ (piece (stated 12) ((codes "0000") ∷ (codes "-000070000") ∷ [])) ∷ (piece (stated 14) ((codes "5535") ∷ [])) ∷ (piece (stated 17) ((codes "-12345") ∷ [])) ∷ (piece (stated 19) ((codes "35w") ∷ [])) ∷ (piece (stated 21) ((codes "1,234,567") ∷ [])) ∷ (piece (stated 23) ((codes "    0,012") ∷ [])) ∷ (piece (stated 25) ((codes "0 1/2,3.4-") ∷ [])) ∷ (piece (stated 26) ((codes "p15") ∷ [])) ∷ (piece (stated 28) ((codes "01-") ∷ [])) ∷ (piece (stated 30) ((codes "p12") ∷ [])) ∷ []
corners-shown_31 = refl

pub corners-ends_61 : ends_of (corners_after 61) ≡ job.Open ∷ []
corners-ends_61 = refl

pub corners-shown_61 : shown_of (corners_after 61) ≡ (piece (stated 3) ((codes "88") ∷ [])) ∷ (piece (stated 5) ((codes "-0001") ∷ [])) ∷ (piece (stated 7) ((codes "NEG") ∷ [])) ∷ (piece (stated 9) ((codes "001") ∷ [])) ∷ (piece (stated 12) ((codes "0000") ∷ (codes "-000070000") ∷ [])) ∷ (piece (stated 14) ((codes "5535") ∷ [])) ∷ (piece (stated 17) ((codes "-12345") ∷ [])) ∷ (piece (stated 19) ((codes "35w") ∷ [])) ∷ (piece (stated 21) ((codes "1,234,567") ∷ [])) ∷ (piece (stated 23) ((codes "    0,012") ∷ [])) ∷ (piece (stated 25) ((codes "0 1/2,3.4-") ∷ [])) ∷ (piece (stated 26) ((codes "p15") ∷ [])) ∷ (piece (stated 28) ((codes "01-") ∷ [])) ∷ (piece (stated 30) ((codes "p12") ∷ [])) ∷ (piece (stated 32) ((codes "p25") ∷ [])) ∷ (piece (stated 35) ((codes "OK") ∷ (codes "003") ∷ (codes "02+") ∷ [])) ∷ (piece (stated 37) ((codes "S") ∷ (codes "003") ∷ (codes "02+") ∷ [])) ∷ (piece (stated 46) ((codes "TWO") ∷ (codes "01") ∷ (codes "003") ∷ [])) ∷ (piece (stated 46) ((codes "TWO") ∷ (codes "02") ∷ (codes "003") ∷ [])) ∷ (piece (stated 46) ((codes "TWO") ∷ (codes "03") ∷ (codes "003") ∷ [])) ∷ (piece (stated 46) ((codes "TWO") ∷ (codes "03") ∷ (codes "003") ∷ [])) ∷ (piece (stated 46) ((codes "TWO") ∷ (codes "03") ∷ (codes "002") ∷ [])) ∷ (piece (stated 42) ((codes "123456789012345678") ∷ [])) ∷ (piece (stated 44) ((codes "OR") ∷ [])) ∷ []
corners-shown_61 = refl

pub corners-ends_62 : ends_of (corners_after 62) ≡ (Failed answer.Data (stated 45)) ∷ []
corners-ends_62 = refl

pub corners-shown_62 : shown_of (corners_after 62) ≡ (piece (stated 3) ((codes "88") ∷ [])) ∷ (piece (stated 5) ((codes "-0001") ∷ [])) ∷ (piece (stated 7) ((codes "NEG") ∷ [])) ∷ (piece (stated 9) ((codes "001") ∷ [])) ∷ (piece (stated 12) ((codes "0000") ∷ (codes "-000070000") ∷ [])) ∷ (piece (stated 14) ((codes "5535") ∷ [])) ∷ (piece (stated 17) ((codes "-12345") ∷ [])) ∷ (piece (stated 19) ((codes "35w") ∷ [])) ∷ (piece (stated 21) ((codes "1,234,567") ∷ [])) ∷ (piece (stated 23) ((codes "    0,012") ∷ [])) ∷ (piece (stated 25) ((codes "0 1/2,3.4-") ∷ [])) ∷ (piece (stated 26) ((codes "p15") ∷ [])) ∷ (piece (stated 28) ((codes "01-") ∷ [])) ∷ (piece (stated 30) ((codes "p12") ∷ [])) ∷ (piece (stated 32) ((codes "p25") ∷ [])) ∷ (piece (stated 35) ((codes "OK") ∷ (codes "003") ∷ (codes "02+") ∷ [])) ∷ (piece (stated 37) ((codes "S") ∷ (codes "003") ∷ (codes "02+") ∷ [])) ∷ (piece (stated 46) ((codes "TWO") ∷ (codes "01") ∷ (codes "003") ∷ [])) ∷ (piece (stated 46) ((codes "TWO") ∷ (codes "02") ∷ (codes "003") ∷ [])) ∷ (piece (stated 46) ((codes "TWO") ∷ (codes "03") ∷ (codes "003") ∷ [])) ∷ (piece (stated 46) ((codes "TWO") ∷ (codes "03") ∷ (codes "003") ∷ [])) ∷ (piece (stated 46) ((codes "TWO") ∷ (codes "03") ∷ (codes "002") ∷ [])) ∷ (piece (stated 42) ((codes "123456789012345678") ∷ [])) ∷ (piece (stated 44) ((codes "OR") ∷ [])) ∷ []
corners-shown_62 = refl

abbrev files_first : Source
files_first = record {
  selects =
      (record { name = codes "INF"; external = codes "IN"; status = Some (place (codes "ST")) }) ∷
      (record { name = codes "OUTF"; external = codes "OUT"; status = None }) ∷
      (record { name = codes "GONE"; external = codes "GONE"; status = Some (subscripted ((codes "T") ∷ []) ((Named ((codes "IX") ∷ [])) ∷ [])) }) ∷ [];
  files =
      (record { name = codes "INF"; entries = (group 1 (codes "INREC")) ∷ (elementary 5 (codes "KEY-PART") (NumberPicture (codes "99"))) ∷ (elementary 5 (codes "REST") (TextPicture (codes "XXX"))) ∷ [] }) ∷
      (record { name = codes "OUTF"; entries = (elementary 1 (codes "OUTREC") (TextPicture (codes "XXXXXX"))) ∷ (elementary 1 (codes "SHORTREC") (TextPicture (codes "XX"))) ∷ [] }) ∷
      (record { name = codes "GONE"; entries = (elementary 1 (codes "GREC") (TextPicture (codes "X"))) ∷ [] }) ∷ [];
  storage =
      (elementary 77 (codes "ST") (NumberPicture (codes "99"))) ∷
      (valued 77 (codes "IX") (NumberPicture (codes "9")) (integer 1 1)) ∷
      (elementary 77 (codes "W") (TextPicture (codes "XXXXXXXX"))) ∷
      (group 1 (codes "TT")) ∷
      (record { level = 5; name = codes "T"; redefines = false; occurs = Some 2; picture = Some (TextPicture (codes "XX")); usage = number.Display; sign = number.Trailing; value = None; values = [] }) ∷
      (elementary 77 (codes "TODAY") (NumberPicture (codes "999999"))) ∷
      (elementary 77 (codes "DD") (TextPicture (codes "XXXXX"))) ∷
      (elementary 77 (codes "TIM") (NumberPicture (codes "99999999"))) ∷ [];
  paragraphs =
      (record { name = codes "ONE-PARA"; section = false; sentences = (block ((Stated (stated 0) (Open Input (codes "GONE"))) ∷ [])) ∷ (block ((Stated (stated 1) (Show ((Text (codes "G")) ∷ (At (subscripted ((codes "T") ∷ []) ((Literal 1) ∷ []))) ∷ []))) ∷ [])) ∷ (block ((Stated (stated 2) (Open Input (codes "INF"))) ∷ (Stated (stated 3) (Open Output (codes "OUTF"))) ∷ [])) ∷ (block ((Stated (stated 4) (Show ((at_place (codes "ST")) ∷ []))) ∷ [])) ∷ (block ((Stated (stated 5) (Open Input (codes "INF"))) ∷ [])) ∷ (block ((Stated (stated 6) (Show ((at_place (codes "ST")) ∷ []))) ∷ [])) ∷ (block ((Stated (stated 7) (Perform (Inline (block ((Stated (stated 8) (Read (codes "INF") (Some (cut_place (codes "W") 2 6)) (Present (block ((Stated (stated 9) (Show ((Text (codes "END")) ∷ []))) ∷ [])) (block ((Stated (stated 10) (Move (at_place (codes "KEY-PART")) (place (codes "OUTREC")))) ∷ (Stated (stated 11) (Write (codes "OUTREC") None)) ∷ []))))) ∷ (Stated (stated 12) (Show ((at_place (codes "ST")) ∷ (at_place (codes "W")) ∷ []))) ∷ []))) (Until false (Relation (One (at_place (codes "ST"))) Equal (One (integer 10 2))) None))) ∷ [])) ∷ (block ((Stated (stated 13) (Read (codes "INF") None Absent)) ∷ [])) ∷ (block ((Stated (stated 14) (Show ((at_place (codes "ST")) ∷ (at_place (codes "INREC")) ∷ []))) ∷ [])) ∷ (block ((Stated (stated 15) (Write (codes "OUTREC") (Some (Text (codes "LONG TEXT"))))) ∷ [])) ∷ (block ((Stated (stated 16) (Write (codes "SHORTREC") (Some (integer 7 1)))) ∷ [])) ∷ (block ((Stated (stated 17) (Close (codes "OUTF"))) ∷ [])) ∷ (block ((Stated (stated 18) (Open Extend (codes "OUTF"))) ∷ [])) ∷ (block ((Stated (stated 19) (Write (codes "SHORTREC") (Some (Figure 48)))) ∷ [])) ∷ (block ((Stated (stated 20) (Close (codes "OUTF"))) ∷ [])) ∷ (block ((Stated (stated 21) (Open Input (codes "OUTF"))) ∷ [])) ∷ (block ((Stated (stated 22) (Read (codes "OUTF") None Absent)) ∷ [])) ∷ (block ((Stated (stated 23) (Show ((at_place (codes "OUTREC")) ∷ []))) ∷ [])) ∷ (block ((Stated (stated 24) (Read (codes "OUTF") (Some (place (codes "W"))) Absent)) ∷ [])) ∷ (block ((Stated (stated 25) (Show ((at_place (codes "W")) ∷ []))) ∷ [])) ∷ (block ((Stated (stated 26) (Close (codes "INF"))) ∷ [])) ∷ (block ((Stated (stated 27) (Close (codes "INF"))) ∷ [])) ∷ (block ((Stated (stated 28) (Show ((at_place (codes "ST")) ∷ []))) ∷ [])) ∷ (block ((Stated (stated 29) (Accept (place (codes "TODAY")) Date)) ∷ [])) ∷ (block ((Stated (stated 30) (Accept (place (codes "DD")) Day)) ∷ [])) ∷ (block ((Stated (stated 31) (Accept (place (codes "TIM")) Time)) ∷ [])) ∷ (block ((Stated (stated 32) (Show ((at_place (codes "TODAY")) ∷ (at_place (codes "DD")) ∷ (at_place (codes "TIM")) ∷ []))) ∷ [])) ∷ (block ((Stated (stated 33) (Move (integer 3 1) (place (codes "IX")))) ∷ [])) ∷ (block ((Stated (stated 34) (Open Output (codes "GONE"))) ∷ [])) ∷ [] }) ∷ [];
}

abbrev files_after : ℕ → JobState
files_after = after_steps (files_first ∷ []) ((record { length = 5; records = Some ((codes "01ABC") ∷ (codes "22DEF") ∷ []); opening = Closed }) ∷ (record { length = 6; records = None; opening = Closed }) ∷ (record { length = 1; records = None; opening = Closed }) ∷ [])

pub files-ends_15 : ends_of (files_after 15) ≡ job.Open ∷ []
files-ends_15 = refl

pub files-shown_15 : shown_of (files_after 15) ≡ (piece (stated 1) ((codes "G") ∷ (codes "35") ∷ [])) ∷ (piece (stated 4) ((codes "00") ∷ [])) ∷ (piece (stated 6) ((codes "41") ∷ [])) ∷ (piece (stated 12) ((codes "00") ∷ (codes " 01ABC  ") ∷ [])) ∷ []
files-shown_15 = refl

pub files-files_15 : held (files_after 15) ≡ (Some ((codes "01ABC") ∷ (codes "22DEF") ∷ [])) ∷ (Some ((codes "01    ") ∷ [])) ∷ None ∷ []
files-files_15 = refl

pub files-ends_22 : ends_of (files_after 22) ≡ job.Open ∷ []
files-ends_22 = refl

pub files-shown_22 : shown_of (files_after 22) ≡ (piece (stated 1) ((codes "G") ∷ (codes "35") ∷ [])) ∷ (piece (stated 4) ((codes "00") ∷ [])) ∷ (piece (stated 6) ((codes "41") ∷ [])) ∷ (piece (stated 12) ((codes "00") ∷ (codes " 01ABC  ") ∷ [])) ∷ (piece (stated 12) ((codes "00") ∷ (codes " 22DEF  ") ∷ [])) ∷ (piece (stated 9) ((codes "END") ∷ [])) ∷ (piece (stated 12) ((codes "10") ∷ (codes " 22DEF  ") ∷ [])) ∷ []
files-shown_22 = refl

pub files-files_22 : held (files_after 22) ≡ (Some ((codes "01ABC") ∷ (codes "22DEF") ∷ [])) ∷ (Some ((codes "01    ") ∷ (codes "22    ") ∷ [])) ∷ None ∷ []
files-files_22 = refl

pub files-ends_44 : ends_of (files_after 44) ≡ job.Open ∷ []
files-ends_44 = refl

pub files-shown_44 : shown_of (files_after 44) ≡ (piece (stated 1) ((codes "G") ∷ (codes "35") ∷ [])) ∷ (piece (stated 4) ((codes "00") ∷ [])) ∷ (piece (stated 6) ((codes "41") ∷ [])) ∷ (piece (stated 12) ((codes "00") ∷ (codes " 01ABC  ") ∷ [])) ∷ (piece (stated 12) ((codes "00") ∷ (codes " 22DEF  ") ∷ [])) ∷ (piece (stated 9) ((codes "END") ∷ [])) ∷ (piece (stated 12) ((codes "10") ∷ (codes " 22DEF  ") ∷ [])) ∷ (piece (stated 14) ((codes "46") ∷ (codes "22DEF") ∷ [])) ∷ (piece (stated 23) ((codes "01    ") ∷ [])) ∷ (piece (stated 25) ((codes "22      ") ∷ [])) ∷ (piece (stated 28) ((codes "42") ∷ [])) ∷ (piece (stated 32) ((codes "990301") ∷ (codes "99060") ∷ (codes "00000000") ∷ [])) ∷ []
files-shown_44 = refl

pub files-files_44 : held (files_after 44) ≡ (Some ((codes "01ABC") ∷ (codes "22DEF") ∷ [])) ∷ (Some ((codes "01    ") ∷ (codes "22    ") ∷ (codes "LONG T") ∷ (codes "7     ") ∷ (codes "00    ") ∷ [])) ∷ None ∷ []
files-files_44 = refl

pub files-ends_45 : ends_of (files_after 45) ≡ (Failed answer.Range (stated 34)) ∷ []
files-ends_45 = refl

pub files-shown_45 : shown_of (files_after 45) ≡ (piece (stated 1) ((codes "G") ∷ (codes "35") ∷ [])) ∷ (piece (stated 4) ((codes "00") ∷ [])) ∷ (piece (stated 6) ((codes "41") ∷ [])) ∷ (piece (stated 12) ((codes "00") ∷ (codes " 01ABC  ") ∷ [])) ∷ (piece (stated 12) ((codes "00") ∷ (codes " 22DEF  ") ∷ [])) ∷ (piece (stated 9) ((codes "END") ∷ [])) ∷ (piece (stated 12) ((codes "10") ∷ (codes " 22DEF  ") ∷ [])) ∷ (piece (stated 14) ((codes "46") ∷ (codes "22DEF") ∷ [])) ∷ (piece (stated 23) ((codes "01    ") ∷ [])) ∷ (piece (stated 25) ((codes "22      ") ∷ [])) ∷ (piece (stated 28) ((codes "42") ∷ [])) ∷ (piece (stated 32) ((codes "990301") ∷ (codes "99060") ∷ (codes "00000000") ∷ [])) ∷ []
files-shown_45 = refl

pub files-files_45 : held (files_after 45) ≡ (Some ((codes "01ABC") ∷ (codes "22DEF") ∷ [])) ∷ (Some ((codes "01    ") ∷ (codes "22    ") ∷ (codes "LONG T") ∷ (codes "7     ") ∷ (codes "00    ") ∷ [])) ∷ (Some []) ∷ []
files-files_45 = refl

abbrev jobs_first : Source
jobs_first = record {
  selects =
      (record { name = codes "F"; external = codes "F"; status = None }) ∷ [];
  files =
      (record { name = codes "F"; entries = (elementary 1 (codes "FREC") (TextPicture (codes "XXX"))) ∷ [] }) ∷ [];
  storage =
      (valued 77 (codes "N") (NumberPicture (codes "9")) (integer 1 1)) ∷ [];
  paragraphs =
      (record { name = []; section = false; sentences = (block ((Stated (stated 0) (Open Output (codes "F"))) ∷ [])) ∷ (block ((Stated (stated 1) (Write (codes "FREC") (Some (Text (codes "ONE"))))) ∷ [])) ∷ (block ((Stated (stated 2) (Move (Text (codes "TWO")) (place (codes "FREC")))) ∷ [])) ∷ (block ((Stated (stated 3) (Write (codes "FREC") None)) ∷ [])) ∷ (block ((Stated (stated 4) (Show ((at_place (codes "FREC")) ∷ (at_place (codes "N")) ∷ []))) ∷ [])) ∷ [] }) ∷ [];
}

abbrev jobs_second : Source
jobs_second = record {
  selects =
      (record { name = codes "G"; external = codes "F"; status = None }) ∷ [];
  files =
      (record { name = codes "G"; entries = (elementary 1 (codes "GREC") (TextPicture (codes "XXX"))) ∷ [] }) ∷ [];
  storage = [];
  paragraphs =
      (record { name = codes "LOOP-PARA"; section = false; sentences = (block ((Stated (second 0) (Open Input (codes "G"))) ∷ [])) ∷ (block ((Stated (second 1) (Perform (Inline (block ((Stated (second 2) (Read (codes "G") None (Present (block ((Stated (second 3) (Show ((Text (codes "AT END")) ∷ []))) ∷ [])) (block ((Stated (second 4) (Show ((at_place (codes "GREC")) ∷ []))) ∷ []))))) ∷ []))) (Times (integer 3 1)))) ∷ [])) ∷ (block ((Stated (second 5) (Open Input (codes "G"))) ∷ [])) ∷ [] }) ∷ [];
}

abbrev jobs_after : ℕ → JobState
jobs_after = after_steps (jobs_first ∷ jobs_second ∷ []) ((record { length = 3; records = None; opening = Closed }) ∷ [])

pub jobs-ends_5 : ends_of (jobs_after 5) ≡ job.Open ∷ []
jobs-ends_5 = refl

pub jobs-shown_5 : shown_of (jobs_after 5) ≡ (piece (stated 4) ((codes "TWO") ∷ (codes "1") ∷ [])) ∷ []
jobs-shown_5 = refl

pub jobs-files_5 : held (jobs_after 5) ≡ (Some ((codes "ONE") ∷ (codes "TWO") ∷ [])) ∷ []
jobs-files_5 = refl

pub jobs-ends_8 : ends_of (jobs_after 8) ≡ Ended ∷ job.Open ∷ []
jobs-ends_8 = refl

pub jobs-shown_8 : shown_of (jobs_after 8) ≡ (piece (stated 4) ((codes "TWO") ∷ (codes "1") ∷ [])) ∷ []
jobs-shown_8 = refl

pub jobs-files_8 : held (jobs_after 8) ≡ (Some ((codes "ONE") ∷ (codes "TWO") ∷ [])) ∷ []
jobs-files_8 = refl

pub jobs-ends_16 : ends_of (jobs_after 16) ≡ Ended ∷ job.Open ∷ []
jobs-ends_16 = refl

pub jobs-shown_16 : shown_of (jobs_after 16) ≡ (piece (stated 4) ((codes "TWO") ∷ (codes "1") ∷ [])) ∷ (piece (second 4) ((codes "ONE") ∷ [])) ∷ (piece (second 4) ((codes "TWO") ∷ [])) ∷ (piece (second 3) ((codes "AT END") ∷ [])) ∷ []
jobs-shown_16 = refl

pub jobs-files_16 : held (jobs_after 16) ≡ (Some ((codes "ONE") ∷ (codes "TWO") ∷ [])) ∷ []
jobs-files_16 = refl

pub jobs-ends_17 : ends_of (jobs_after 17) ≡ Ended ∷ (Failed answer.File (second 5)) ∷ []
jobs-ends_17 = refl

pub jobs-shown_17 : shown_of (jobs_after 17) ≡ (piece (stated 4) ((codes "TWO") ∷ (codes "1") ∷ [])) ∷ (piece (second 4) ((codes "ONE") ∷ [])) ∷ (piece (second 4) ((codes "TWO") ∷ [])) ∷ (piece (second 3) ((codes "AT END") ∷ [])) ∷ []
jobs-shown_17 = refl

pub jobs-files_17 : held (jobs_after 17) ≡ (Some ((codes "ONE") ∷ (codes "TWO") ∷ [])) ∷ []
jobs-files_17 = refl

abbrev jumps_first : Source
jumps_first = record {
  selects = [];
  files = [];
  storage =
      (valued 77 (codes "N") (NumberPicture (codes "99")) (integer 0 1)) ∷ [];
  paragraphs =
      (record { name = codes "MAIN-PARA"; section = false; sentences = (block ((Stated (stated 0) (Perform (Through (codes "A-PARA") (codes "A-PARA")) (Times (integer 2 1)))) ∷ [])) ∷ (block ((Stated (stated 1) (Show ((Text (codes "BACK")) ∷ (at_place (codes "N")) ∷ []))) ∷ [])) ∷ (block ((Stated (stated 2) (Perform (Through (codes "D-PARA") (codes "C-PARA")) Once)) ∷ [])) ∷ (block ((Stated (stated 3) (Show ((Text (codes "NOT HERE")) ∷ []))) ∷ [])) ∷ [] }) ∷
      (record { name = codes "A-PARA"; section = false; sentences = (block ((Stated (stated 4) (Compute (place (codes "N")) false (Add (One (integer 1 1)) (One (at_place (codes "N")))) None Absent)) ∷ [])) ∷ (block ((Stated (stated 5) (Show ((Text (codes "A")) ∷ (at_place (codes "N")) ∷ []))) ∷ [])) ∷ (block ((Stated (stated 6) (If (Relation (One (at_place (codes "N"))) Equal (One (integer 1 1))) (block ((Stated (stated 7) (GoTo (codes "B-PARA"))) ∷ [])) Nil)) ∷ [])) ∷ [] }) ∷
      (record { name = codes "B-PARA"; section = false; sentences = (block ((Stated (stated 8) (Compute (place (codes "N")) false (Add (One (integer 1 1)) (One (at_place (codes "N")))) None Absent)) ∷ [])) ∷ (block ((Stated (stated 9) (Show ((Text (codes "B")) ∷ (at_place (codes "N")) ∷ []))) ∷ [])) ∷ (block ((Stated (stated 10) (If (Relation (One (at_place (codes "N"))) Less (One (integer 5 1))) (block ((Stated (stated 11) (GoTo (codes "A-PARA"))) ∷ [])) Nil)) ∷ [])) ∷ [] }) ∷
      (record { name = codes "C-PARA"; section = false; sentences = (block ((Stated (stated 12) (Show ((Text (codes "C")) ∷ (at_place (codes "N")) ∷ []))) ∷ [])) ∷ (block ((Stated (stated 13) (If (Relation (One (at_place (codes "N"))) Less (One (integer 7 1))) (block ((Stated (stated 14) (Compute (place (codes "N")) false (Add (One (integer 1 1)) (One (at_place (codes "N")))) None Absent)) ∷ (Stated (stated 15) (GoTo (codes "A-PARA"))) ∷ [])) Nil)) ∷ [])) ∷ [] }) ∷
      (record { name = codes "D-PARA"; section = false; sentences = (block ((Stated (stated 16) (Show ((Text (codes "D")) ∷ (at_place (codes "N")) ∷ []))) ∷ [])) ∷ [] }) ∷ [];
}

abbrev jumps_after : ℕ → JobState
jumps_after = after_steps (jumps_first ∷ []) []

pub jumps-ends_6 : ends_of (jumps_after 6) ≡ job.Open ∷ []
jumps-ends_6 = refl

pub jumps-shown_6 : shown_of (jumps_after 6) ≡ (piece (stated 5) ((codes "A") ∷ (codes "01") ∷ [])) ∷ []
jumps-shown_6 = refl

pub jumps-ends_10 : ends_of (jumps_after 10) ≡ job.Open ∷ []
jumps-ends_10 = refl

pub jumps-shown_10 : shown_of (jumps_after 10) ≡ (piece (stated 5) ((codes "A") ∷ (codes "01") ∷ [])) ∷ (piece (stated 9) ((codes "B") ∷ (codes "02") ∷ [])) ∷ []
jumps-shown_10 = refl

pub jumps-ends_19 : ends_of (jumps_after 19) ≡ job.Open ∷ []
jumps-ends_19 = refl

pub jumps-shown_19 : shown_of (jumps_after 19) ≡ (piece (stated 5) ((codes "A") ∷ (codes "01") ∷ [])) ∷ (piece (stated 9) ((codes "B") ∷ (codes "02") ∷ [])) ∷ (piece (stated 5) ((codes "A") ∷ (codes "03") ∷ [])) ∷ (piece (stated 5) ((codes "A") ∷ (codes "04") ∷ [])) ∷ (piece (stated 1) ((codes "BACK") ∷ (codes "04") ∷ [])) ∷ (piece (stated 16) ((codes "D") ∷ (codes "04") ∷ [])) ∷ []
jumps-shown_19 = refl

pub jumps-ends_20 : ends_of (jumps_after 20) ≡ Ended ∷ []
jumps-ends_20 = refl

pub jumps-shown_20 : shown_of (jumps_after 20) ≡ (piece (stated 5) ((codes "A") ∷ (codes "01") ∷ [])) ∷ (piece (stated 9) ((codes "B") ∷ (codes "02") ∷ [])) ∷ (piece (stated 5) ((codes "A") ∷ (codes "03") ∷ [])) ∷ (piece (stated 5) ((codes "A") ∷ (codes "04") ∷ [])) ∷ (piece (stated 1) ((codes "BACK") ∷ (codes "04") ∷ [])) ∷ (piece (stated 16) ((codes "D") ∷ (codes "04") ∷ [])) ∷ []
jumps-shown_20 = refl

abbrev moves_first : Source
moves_first = record {
  selects = [];
  files = [];
  storage =
      (group 1 (codes "G")) ∷
      (valued 5 (codes "A") (TextPicture (codes "XXXX")) (Text (codes "AB12"))) ∷
      (valued 5 (codes "N") (NumberPicture (codes "999V99")) (Number (pos 125) 1 3)) ∷
      (record { level = 5; name = codes "P"; redefines = false; occurs = None; picture = Some (NumberPicture (codes "S9999V9")); usage = number.Packed; sign = number.Trailing; value = Some (Number (neg_ℤ (pos 375)) 1 3); values = [] }) ∷
      (record { level = 5; name = codes "B"; redefines = false; occurs = None; picture = Some (NumberPicture (codes "S9999")); usage = number.Binary; sign = number.Trailing; value = Some (Number (neg_ℤ (pos 1234)) 0 4); values = [] }) ∷
      (record { level = 5; name = codes "Q"; redefines = false; occurs = None; picture = Some (NumberPicture (codes "9999")); usage = number.Packed; sign = number.Trailing; value = Some (integer 77 2); values = [] }) ∷
      (elementary 77 (codes "E") (EditedPicture (codes "ZZ,ZZ9.99-"))) ∷
      (elementary 77 (codes "F") (EditedPicture (codes "99/99/99"))) ∷
      (valued 77 (codes "S") (NumberPicture (codes "S999")) (integer 0 1)) ∷
      (record { level = 77; name = codes "L"; redefines = false; occurs = None; picture = Some (NumberPicture (codes "S999")); usage = number.Display; sign = number.LeadingSeparate; value = None; values = [] }) ∷
      (record { level = 77; name = codes "U"; redefines = false; occurs = None; picture = Some (NumberPicture (codes "S99V9")); usage = number.Display; sign = number.TrailingSeparate; value = None; values = [] }) ∷
      (elementary 77 (codes "X") (TextPicture (codes "XXXXXX"))) ∷
      (elementary 77 (codes "Y") (TextPicture (codes "XXXXXXXXXXXXXXXXXXXXXXXXXXXXXX"))) ∷
      (elementary 77 (codes "D") (NumberPicture (codes "99"))) ∷
      (elementary 77 (codes "M") (NumberPicture (codes "9999"))) ∷ [];
  paragraphs =
      (record { name = codes "ONE-PARA"; section = false; sentences = (block ((Stated (stated 0) (Move (at_place (codes "P")) (place (codes "E")))) ∷ [])) ∷ (block ((Stated (stated 1) (Show ((at_place (codes "E")) ∷ []))) ∷ [])) ∷ (block ((Stated (stated 2) (Move (at_place (codes "N")) (place (codes "E")))) ∷ [])) ∷ (block ((Stated (stated 3) (Show ((at_place (codes "E")) ∷ []))) ∷ [])) ∷ (block ((Stated (stated 4) (Move (Number (pos 123456789) 3 9) (place (codes "E")))) ∷ [])) ∷ (block ((Stated (stated 5) (Show ((at_place (codes "E")) ∷ []))) ∷ [])) ∷ (block ((Stated (stated 6) (Move (Figure 48) (place (codes "E")))) ∷ [])) ∷ (block ((Stated (stated 7) (Show ((at_place (codes "E")) ∷ []))) ∷ [])) ∷ (block ((Stated (stated 8) (Move (Number (neg_ℤ (pos 1)) 3 4) (place (codes "E")))) ∷ [])) ∷ (block ((Stated (stated 9) (Show ((at_place (codes "E")) ∷ []))) ∷ [])) ∷ (block ((Stated (stated 10) (Move (integer 990301 6) (place (codes "F")))) ∷ [])) ∷ (block ((Stated (stated 11) (Show ((at_place (codes "F")) ∷ []))) ∷ [])) ∷ (block ((Stated (stated 12) (Move (Number (neg_ℤ (pos 7)) 0 1) (place (codes "S")))) ∷ [])) ∷ (block ((Stated (stated 13) (Show ((at_place (codes "S")) ∷ []))) ∷ [])) ∷ (block ((Stated (stated 14) (Show ((Text (codes "S")) ∷ (at_place (codes "S")) ∷ (Text (codes " ")) ∷ (at_place (codes "B")) ∷ (at_place (codes "P")) ∷ (at_place (codes "Q")) ∷ []))) ∷ [])) ∷ (block ((Stated (stated 15) (Move (at_place (codes "S")) (place (codes "L")))) ∷ [])) ∷ (block ((Stated (stated 16) (Show ((at_place (codes "L")) ∷ []))) ∷ [])) ∷ (block ((Stated (stated 17) (Move (at_place (codes "L")) (place (codes "U")))) ∷ [])) ∷ (block ((Stated (stated 18) (Show ((at_place (codes "U")) ∷ []))) ∷ [])) ∷ (block ((Stated (stated 19) (Move (at_place (codes "S")) (place (codes "D")))) ∷ [])) ∷ (block ((Stated (stated 20) (Show ((at_place (codes "D")) ∷ []))) ∷ [])) ∷ (block ((Stated (stated 21) (Move (at_place (codes "B")) (place (codes "X")))) ∷ [])) ∷ (block ((Stated (stated 22) (Show ((at_place (codes "X")) ∷ (Text (codes "|")) ∷ []))) ∷ [])) ∷ (block ((Stated (stated 23) (Move (at_place (codes "Q")) (place (codes "X")))) ∷ [])) ∷ (block ((Stated (stated 24) (Show ((at_place (codes "X")) ∷ (Text (codes "|")) ∷ []))) ∷ [])) ∷ (block ((Stated (stated 25) (Move (at_place (codes "G")) (place (codes "Y")))) ∷ [])) ∷ (block ((Stated (stated 26) (Show ((at_place (codes "Y")) ∷ []))) ∷ [])) ∷ (block ((Stated (stated 27) (Move (Text (codes "0421")) (place (codes "M")))) ∷ [])) ∷ (block ((Stated (stated 28) (Show ((at_place (codes "M")) ∷ []))) ∷ [])) ∷ (block ((Stated (stated 29) (Move (at_place (codes "M")) (place (codes "X")))) ∷ [])) ∷ (block ((Stated (stated 30) (Show ((at_place (codes "X")) ∷ []))) ∷ [])) ∷ (block ((Stated (stated 31) (Move (Figure 32) (place (codes "X")))) ∷ [])) ∷ (block ((Stated (stated 32) (Show ((at_place (codes "X")) ∷ (Text (codes "|")) ∷ []))) ∷ [])) ∷ (block ((Stated (stated 33) (Move (Figure 34) (place (codes "X")))) ∷ [])) ∷ (block ((Stated (stated 34) (Show ((at_place (codes "X")) ∷ []))) ∷ [])) ∷ (block ((Stated (stated 35) (Move (at_place (codes "B")) (place (codes "P")))) ∷ [])) ∷ (block ((Stated (stated 36) (Show ((at_place (codes "P")) ∷ []))) ∷ [])) ∷ (block ((Stated (stated 37) (Move (at_place (codes "P")) (place (codes "B")))) ∷ [])) ∷ (block ((Stated (stated 38) (Show ((at_place (codes "B")) ∷ []))) ∷ [])) ∷ (block ((Stated (stated 39) (Move (at_place (codes "A")) (place (codes "X")))) ∷ [])) ∷ (block ((Stated (stated 40) (Show ((at_place (codes "X")) ∷ []))) ∷ [])) ∷ (block ((Stated (stated 41) (Move (Text (codes "1234567")) (place (codes "A")))) ∷ [])) ∷ (block ((Stated (stated 42) (Show ((at_place (codes "A")) ∷ []))) ∷ [])) ∷ (block ((Stated (stated 43) (Move (integer 7 3) (place (codes "A")))) ∷ [])) ∷ (block ((Stated (stated 44) (Show ((at_place (codes "A")) ∷ []))) ∷ [])) ∷ (block ((Stated (stated 45) (Show ((integer 12 3) ∷ (Number (neg_ℤ (pos 15)) 1 2) ∷ (Figure 48) ∷ (Figure 255) ∷ []))) ∷ [])) ∷ (block ((Stated (stated 46) (Move (at_place (codes "X")) (place (codes "M")))) ∷ [])) ∷ (block ((Stated (stated 47) (Show ((Text (codes "NOT HERE")) ∷ []))) ∷ [])) ∷ [] }) ∷ [];
}

abbrev moves_after : ℕ → JobState
moves_after = after_steps (moves_first ∷ []) []

pub moves-ends_15 : ends_of (moves_after 15) ≡ job.Open ∷ []
moves-ends_15 = refl

pub moves-shown_15 : shown_of (moves_after 15) ≡ (piece (stated 1) ((codes "    37.50-") ∷ [])) ∷ (piece (stated 3) ((codes "    12.50 ") ∷ [])) ∷ (piece (stated 5) ((codes "23,456.78 ") ∷ [])) ∷ (piece (stated 7) ((codes "     0.00 ") ∷ [])) ∷ (piece (stated 9) ((codes "     0.00 ") ∷ [])) ∷ (piece (stated 11) ((codes "99/03/01") ∷ [])) ∷ (piece (stated 13) ((codes "00w") ∷ [])) ∷ (piece (stated 14) ((codes "S") ∷ (codes "00w") ∷ (codes " ") ∷ (codes "-1234") ∷ (codes "-00375") ∷ (codes "0077") ∷ [])) ∷ []
moves-shown_15 = refl

pub moves-ends_23 : ends_of (moves_after 23) ≡ job.Open ∷ []
moves-ends_23 = refl

pub moves-shown_23 : shown_of (moves_after 23) ≡ (piece (stated 1) ((codes "    37.50-") ∷ [])) ∷ (piece (stated 3) ((codes "    12.50 ") ∷ [])) ∷ (piece (stated 5) ((codes "23,456.78 ") ∷ [])) ∷ (piece (stated 7) ((codes "     0.00 ") ∷ [])) ∷ (piece (stated 9) ((codes "     0.00 ") ∷ [])) ∷ (piece (stated 11) ((codes "99/03/01") ∷ [])) ∷ (piece (stated 13) ((codes "00w") ∷ [])) ∷ (piece (stated 14) ((codes "S") ∷ (codes "00w") ∷ (codes " ") ∷ (codes "-1234") ∷ (codes "-00375") ∷ (codes "0077") ∷ [])) ∷ (piece (stated 16) ((codes "-007") ∷ [])) ∷ (piece (stated 18) ((codes "070-") ∷ [])) ∷ (piece (stated 20) ((codes "07") ∷ [])) ∷ (piece (stated 22) ((codes "1234  ") ∷ (codes "|") ∷ [])) ∷ []
moves-shown_23 = refl

pub moves-ends_46 : ends_of (moves_after 46) ≡ job.Open ∷ []
moves-ends_46 = refl

pub moves-shown_46 : shown_of (moves_after 46) ≡ (piece (stated 1) ((codes "    37.50-") ∷ [])) ∷ (piece (stated 3) ((codes "    12.50 ") ∷ [])) ∷ (piece (stated 5) ((codes "23,456.78 ") ∷ [])) ∷ (piece (stated 7) ((codes "     0.00 ") ∷ [])) ∷ (piece (stated 9) ((codes "     0.00 ") ∷ [])) ∷ (piece (stated 11) ((codes "99/03/01") ∷ [])) ∷ (piece (stated 13) ((codes "00w") ∷ [])) ∷ (piece (stated 14) ((codes "S") ∷ (codes "00w") ∷ (codes " ") ∷ (codes "-1234") ∷ (codes "-00375") ∷ (codes "0077") ∷ [])) ∷ (piece (stated 16) ((codes "-007") ∷ [])) ∷ (piece (stated 18) ((codes "070-") ∷ [])) ∷ (piece (stated 20) ((codes "07") ∷ [])) ∷ (piece (stated 22) ((codes "1234  ") ∷ (codes "|") ∷ [])) ∷ (piece (stated 24) ((codes "0077  ") ∷ (codes "|") ∷ [])) ∷ (piece (stated 26) ((65 ∷ 66 ∷ 49 ∷ 50 ∷ 48 ∷ 49 ∷ 50 ∷ 53 ∷ 48 ∷ 0 ∷ 55 ∷ 93 ∷ 251 ∷ 46 ∷ 0 ∷ 7 ∷ 127 ∷ 32 ∷ 32 ∷ 32 ∷ 32 ∷ 32 ∷ 32 ∷ 32 ∷ 32 ∷ 32 ∷ 32 ∷ 32 ∷ 32 ∷ 32 ∷ []) ∷ [])) ∷ (piece (stated 28) ((codes "0421") ∷ [])) ∷ (piece (stated 30) ((codes "0421  ") ∷ [])) ∷ (piece (stated 32) ((codes "      ") ∷ (codes "|") ∷ [])) ∷ (piece (stated 34) ((34 ∷ 34 ∷ 34 ∷ 34 ∷ 34 ∷ 34 ∷ []) ∷ [])) ∷ (piece (stated 36) ((codes "-12340") ∷ [])) ∷ (piece (stated 38) ((codes "-1234") ∷ [])) ∷ (piece (stated 40) ((codes "AB12  ") ∷ [])) ∷ (piece (stated 42) ((codes "1234") ∷ [])) ∷ (piece (stated 44) ((codes "007 ") ∷ [])) ∷ (piece (stated 45) ((codes "012") ∷ (codes "-15") ∷ (codes "0") ∷ (255 ∷ []) ∷ [])) ∷ []
moves-shown_46 = refl

pub moves-ends_47 : ends_of (moves_after 47) ≡ (Failed answer.Data (stated 46)) ∷ []
moves-ends_47 = refl

pub moves-shown_47 : shown_of (moves_after 47) ≡ (piece (stated 1) ((codes "    37.50-") ∷ [])) ∷ (piece (stated 3) ((codes "    12.50 ") ∷ [])) ∷ (piece (stated 5) ((codes "23,456.78 ") ∷ [])) ∷ (piece (stated 7) ((codes "     0.00 ") ∷ [])) ∷ (piece (stated 9) ((codes "     0.00 ") ∷ [])) ∷ (piece (stated 11) ((codes "99/03/01") ∷ [])) ∷ (piece (stated 13) ((codes "00w") ∷ [])) ∷ (piece (stated 14) ((codes "S") ∷ (codes "00w") ∷ (codes " ") ∷ (codes "-1234") ∷ (codes "-00375") ∷ (codes "0077") ∷ [])) ∷ (piece (stated 16) ((codes "-007") ∷ [])) ∷ (piece (stated 18) ((codes "070-") ∷ [])) ∷ (piece (stated 20) ((codes "07") ∷ [])) ∷ (piece (stated 22) ((codes "1234  ") ∷ (codes "|") ∷ [])) ∷ (piece (stated 24) ((codes "0077  ") ∷ (codes "|") ∷ [])) ∷ (piece (stated 26) ((65 ∷ 66 ∷ 49 ∷ 50 ∷ 48 ∷ 49 ∷ 50 ∷ 53 ∷ 48 ∷ 0 ∷ 55 ∷ 93 ∷ 251 ∷ 46 ∷ 0 ∷ 7 ∷ 127 ∷ 32 ∷ 32 ∷ 32 ∷ 32 ∷ 32 ∷ 32 ∷ 32 ∷ 32 ∷ 32 ∷ 32 ∷ 32 ∷ 32 ∷ 32 ∷ []) ∷ [])) ∷ (piece (stated 28) ((codes "0421") ∷ [])) ∷ (piece (stated 30) ((codes "0421  ") ∷ [])) ∷ (piece (stated 32) ((codes "      ") ∷ (codes "|") ∷ [])) ∷ (piece (stated 34) ((34 ∷ 34 ∷ 34 ∷ 34 ∷ 34 ∷ 34 ∷ []) ∷ [])) ∷ (piece (stated 36) ((codes "-12340") ∷ [])) ∷ (piece (stated 38) ((codes "-1234") ∷ [])) ∷ (piece (stated 40) ((codes "AB12  ") ∷ [])) ∷ (piece (stated 42) ((codes "1234") ∷ [])) ∷ (piece (stated 44) ((codes "007 ") ∷ [])) ∷ (piece (stated 45) ((codes "012") ∷ (codes "-15") ∷ (codes "0") ∷ (255 ∷ []) ∷ [])) ∷ []
moves-shown_47 = refl

abbrev sums_first : Source
sums_first = record {
  selects = [];
  files = [];
  storage =
      (valued 77 (codes "A") (NumberPicture (codes "99")) (integer 98 2)) ∷
      (valued 77 (codes "B") (NumberPicture (codes "S999V99")) (Number (neg_ℤ (pos 725)) 2 3)) ∷
      (elementary 77 (codes "C") (NumberPicture (codes "S99999V999"))) ∷
      (elementary 77 (codes "R") (NumberPicture (codes "999"))) ∷
      (record { level = 77; name = codes "K"; redefines = false; occurs = None; picture = Some (NumberPicture (codes "S9999")); usage = number.Binary; sign = number.Trailing; value = Some (integer 3 1); values = [] }) ∷
      (record { level = 77; name = codes "P"; redefines = false; occurs = None; picture = Some (NumberPicture (codes "S9999999V99")); usage = number.Packed; sign = number.Trailing; value = Some (integer 100 3); values = [] }) ∷
      (elementary 77 (codes "E") (EditedPicture (codes "ZZZ9.99-"))) ∷
      (valued 77 (codes "W") (NumberPicture (codes "S999999999999999999")) (integer 999999999999999999 18)) ∷ [];
  paragraphs =
      (record { name = codes "ONE-PARA"; section = false; sentences = (block ((Stated (stated 0) (Compute (place (codes "A")) false (Add (Add (One (integer 1 1)) (One (at_place (codes "K")))) (One (at_place (codes "A")))) None Absent)) ∷ [])) ∷ (block ((Stated (stated 1) (Show ((at_place (codes "A")) ∷ []))) ∷ [])) ∷ (block ((Stated (stated 2) (Compute (place (codes "A")) false (Add (One (integer 98 2)) (One (at_place (codes "A")))) None (Present (block ((Stated (stated 3) (Show ((Text (codes "SIZE")) ∷ (at_place (codes "A")) ∷ []))) ∷ [])) (block ((Stated (stated 4) (Show ((Text (codes "FITS")) ∷ []))) ∷ []))))) ∷ [])) ∷ (block ((Stated (stated 5) (Compute (place (codes "P")) false (Sub (One (at_place (codes "P"))) (Add (One (at_place (codes "B"))) (One (integer 1 1)))) None Absent)) ∷ [])) ∷ (block ((Stated (stated 6) (Show ((at_place (codes "P")) ∷ []))) ∷ [])) ∷ (block ((Stated (stated 7) (Compute (place (codes "C")) true (Mul (One (at_place (codes "B"))) (One (at_place (codes "B")))) None Absent)) ∷ [])) ∷ (block ((Stated (stated 8) (Show ((at_place (codes "C")) ∷ []))) ∷ [])) ∷ (block ((Stated (stated 9) (Compute (place (codes "C")) false (Div (One (at_place (codes "P"))) (One (integer 7 1))) None Absent)) ∷ [])) ∷ (block ((Stated (stated 10) (Show ((at_place (codes "C")) ∷ []))) ∷ [])) ∷ (block ((Stated (stated 11) (Compute (place (codes "R")) true (Div (One (at_place (codes "P"))) (One (integer 7 1))) (Some (place (codes "C"))) Absent)) ∷ [])) ∷ (block ((Stated (stated 12) (Show ((at_place (codes "R")) ∷ (Text (codes " ")) ∷ (at_place (codes "C")) ∷ []))) ∷ [])) ∷ (block ((Stated (stated 13) (Compute (place (codes "E")) true (Sub (Div (Mul (Add (One (at_place (codes "B"))) (One (integer 1 1))) (Minus (One (at_place (codes "K"))))) (One (integer 4 1))) (One (Number (pos 5) 3 4))) None Absent)) ∷ [])) ∷ (block ((Stated (stated 14) (Show ((at_place (codes "E")) ∷ []))) ∷ [])) ∷ (block ((Stated (stated 15) (Compute (place (codes "C")) false (Mul (Div (Minus (One (at_place (codes "B")))) (One (integer 3 1))) (One (integer 3 1))) None Absent)) ∷ [])) ∷ (block ((Stated (stated 16) (Show ((at_place (codes "C")) ∷ []))) ∷ [])) ∷ (block ((Stated (stated 17) (Compute (place (codes "E")) false (Add (Div (One (integer 100 3)) (One (integer 3 1))) (One (at_place (codes "P")))) None Absent)) ∷ [])) ∷ (block ((Stated (stated 18) (Show ((at_place (codes "E")) ∷ []))) ∷ [])) ∷ (block ((Stated (stated 19) (Compute (place (codes "A")) false (Div (One (Number (neg_ℤ (pos 7)) 0 1)) (One (integer 2 1))) (Some (place (codes "C"))) Absent)) ∷ [])) ∷ (block ((Stated (stated 20) (Show ((at_place (codes "A")) ∷ (Text (codes " ")) ∷ (at_place (codes "C")) ∷ []))) ∷ [])) ∷ (block ((Stated (stated 21) (Compute (place (codes "R")) false (Div (One (at_place (codes "A"))) (One (Figure 48))) None (Present (block ((Stated (stated 22) (Show ((Text (codes "ZERO")) ∷ []))) ∷ [])) Nil))) ∷ [])) ∷ (block ((Stated (stated 23) (Compute (place (codes "R")) false (Mul (One (at_place (codes "W"))) (One (at_place (codes "W")))) None (Present (block ((Stated (stated 24) (Show ((Text (codes "BIG")) ∷ []))) ∷ [])) Nil))) ∷ [])) ∷ (block ((Stated (stated 25) (Compute (place (codes "R")) false (Mul (Mul (One (at_place (codes "W"))) (One (at_place (codes "W")))) (One (at_place (codes "W")))) None Absent)) ∷ [])) ∷ (block ((Stated (stated 26) (Show ((Text (codes "NOT HERE")) ∷ []))) ∷ [])) ∷ [] }) ∷ [];
}

abbrev sums_after : ℕ → JobState
sums_after = after_steps (sums_first ∷ []) []

pub sums-ends_8 : ends_of (sums_after 8) ≡ job.Open ∷ []
sums-ends_8 = refl

pub sums-shown_8 : shown_of (sums_after 8) ≡ (piece (stated 1) ((codes "02") ∷ [])) ∷ (piece (stated 3) ((codes "SIZE") ∷ (codes "02") ∷ [])) ∷ (piece (stated 6) ((codes "000010625") ∷ [])) ∷ (piece (stated 8) ((codes "00052563") ∷ [])) ∷ []
sums-shown_8 = refl

pub sums-ends_12 : ends_of (sums_after 12) ≡ job.Open ∷ []
sums-ends_12 = refl

pub sums-shown_12 : shown_of (sums_after 12) ≡ (piece (stated 1) ((codes "02") ∷ [])) ∷ (piece (stated 3) ((codes "SIZE") ∷ (codes "02") ∷ [])) ∷ (piece (stated 6) ((codes "000010625") ∷ [])) ∷ (piece (stated 8) ((codes "00052563") ∷ [])) ∷ (piece (stated 10) ((codes "00015178") ∷ [])) ∷ (piece (stated 12) ((codes "015") ∷ (codes " ") ∷ (codes "00001250") ∷ [])) ∷ []
sums-shown_12 = refl

pub sums-ends_24 : ends_of (sums_after 24) ≡ job.Open ∷ []
sums-ends_24 = refl

pub sums-shown_24 : shown_of (sums_after 24) ≡ (piece (stated 1) ((codes "02") ∷ [])) ∷ (piece (stated 3) ((codes "SIZE") ∷ (codes "02") ∷ [])) ∷ (piece (stated 6) ((codes "000010625") ∷ [])) ∷ (piece (stated 8) ((codes "00052563") ∷ [])) ∷ (piece (stated 10) ((codes "00015178") ∷ [])) ∷ (piece (stated 12) ((codes "015") ∷ (codes " ") ∷ (codes "00001250") ∷ [])) ∷ (piece (stated 14) ((codes "   4.68 ") ∷ [])) ∷ (piece (stated 16) ((codes "00007249") ∷ [])) ∷ (piece (stated 18) ((codes " 139.58 ") ∷ [])) ∷ (piece (stated 20) ((codes "03") ∷ (codes " ") ∷ (codes "0001300p") ∷ [])) ∷ (piece (stated 22) ((codes "ZERO") ∷ [])) ∷ (piece (stated 24) ((codes "BIG") ∷ [])) ∷ []
sums-shown_24 = refl

pub sums-ends_25 : ends_of (sums_after 25) ≡ (Failed answer.Wide (stated 25)) ∷ []
sums-ends_25 = refl

pub sums-shown_25 : shown_of (sums_after 25) ≡ (piece (stated 1) ((codes "02") ∷ [])) ∷ (piece (stated 3) ((codes "SIZE") ∷ (codes "02") ∷ [])) ∷ (piece (stated 6) ((codes "000010625") ∷ [])) ∷ (piece (stated 8) ((codes "00052563") ∷ [])) ∷ (piece (stated 10) ((codes "00015178") ∷ [])) ∷ (piece (stated 12) ((codes "015") ∷ (codes " ") ∷ (codes "00001250") ∷ [])) ∷ (piece (stated 14) ((codes "   4.68 ") ∷ [])) ∷ (piece (stated 16) ((codes "00007249") ∷ [])) ∷ (piece (stated 18) ((codes " 139.58 ") ∷ [])) ∷ (piece (stated 20) ((codes "03") ∷ (codes " ") ∷ (codes "0001300p") ∷ [])) ∷ (piece (stated 22) ((codes "ZERO") ∷ [])) ∷ (piece (stated 24) ((codes "BIG") ∷ [])) ∷ []
sums-shown_25 = refl

abbrev tables_first : Source
tables_first = record {
  selects = [];
  files = [];
  storage =
      (group 1 (codes "T")) ∷
      (record { level = 5; name = codes "R"; redefines = false; occurs = Some 3; picture = None; usage = number.Display; sign = number.Trailing; value = None; values = [] }) ∷
      (valued 10 (codes "A") (NumberPicture (codes "99")) (integer 5 1)) ∷
      (record { level = 10; name = codes "B"; redefines = false; occurs = Some 2; picture = Some (TextPicture (codes "XXX")); usage = number.Display; sign = number.Trailing; value = Some (Text (codes "xy")); values = [] }) ∷
      (record { level = 1; name = codes "T2"; redefines = true; occurs = None; picture = None; usage = number.Display; sign = number.Trailing; value = None; values = [] }) ∷
      (elementary 5 (codes "WHOLE-ONE") (TextPicture (codes "XXXXXXXXXXXXXXXXXXXXXXXX"))) ∷
      (group 1 (codes "G2")) ∷
      (valued 5 (codes "A") (NumberPicture (codes "99")) (integer 77 2)) ∷
      (valued 77 (codes "I") (NumberPicture (codes "9")) (integer 2 1)) ∷
      (valued 77 (codes "J") (NumberPicture (codes "9")) (integer 1 1)) ∷
      (valued 77 (codes "X") (TextPicture (codes "XXXXXXXXXX")) (Text (codes "ABCDEFGHIJ"))) ∷ [];
  paragraphs =
      (record { name = codes "ONE-PARA"; section = false; sentences = (block ((Stated (stated 0) (Show ((at_place (codes "T")) ∷ []))) ∷ [])) ∷ (block ((Stated (stated 1) (Move (Text (codes "Q")) (subscripted ((codes "B") ∷ []) ((Named ((codes "I") ∷ [])) ∷ (Named ((codes "J") ∷ [])) ∷ [])))) ∷ [])) ∷ (block ((Stated (stated 2) (Move (integer 8 1) (subscripted ((codes "A") ∷ (codes "R") ∷ []) ((Literal 3) ∷ [])))) ∷ [])) ∷ (block ((Stated (stated 3) (Compute (subscripted ((codes "A") ∷ (codes "T") ∷ []) ((Named ((codes "J") ∷ [])) ∷ [])) false (Add (Add (One (At (subscripted ((codes "A") ∷ (codes "T") ∷ []) ((Named ((codes "I") ∷ [])) ∷ [])))) (One (At (qualified ((codes "A") ∷ (codes "G2") ∷ []))))) (One (At (subscripted ((codes "A") ∷ (codes "T") ∷ []) ((Named ((codes "J") ∷ [])) ∷ []))))) None Absent)) ∷ [])) ∷ (block ((Stated (stated 4) (Show ((at_place (codes "WHOLE-ONE")) ∷ []))) ∷ [])) ∷ (block ((Stated (stated 5) (Move (At (part_of ((codes "X") ∷ []) [] (record { start = Named ((codes "I") ∷ []); length = Some (Literal 3) }))) (part_of ((codes "X") ∷ []) [] (record { start = Literal 3; length = None })))) ∷ [])) ∷ (block ((Stated (stated 6) (Show ((at_place (codes "X")) ∷ []))) ∷ [])) ∷ (block ((Stated (stated 7) (Move (At (part_of ((codes "X") ∷ []) [] (record { start = Literal 8; length = Some (Named ((codes "I") ∷ [])) }))) (cut_place (codes "X") 1 2))) ∷ [])) ∷ (block ((Stated (stated 8) (Show ((At (part_of ((codes "X") ∷ []) [] (record { start = Named ((codes "I") ∷ []); length = Some (Named ((codes "J") ∷ [])) }))) ∷ (Text (codes ",")) ∷ (At (part_of ((codes "X") ∷ []) [] (record { start = Literal 9; length = None }))) ∷ []))) ∷ [])) ∷ (block ((Stated (stated 9) (Move (At (part_of ((codes "X") ∷ []) [] (record { start = Literal 1; length = None }))) (part_of ((codes "B") ∷ []) ((Literal 3) ∷ (Literal 2) ∷ []) (record { start = Literal 2; length = Some (Literal 1) })))) ∷ [])) ∷ (block ((Stated (stated 10) (Show ((at_place (codes "T")) ∷ []))) ∷ [])) ∷ (block ((Stated (stated 11) (If (Relation (One (At (cut_place (codes "X") 2 2))) Equal (One (Text (codes "IA")))) (block ((Stated (stated 12) (Show ((Text (codes "REF")) ∷ []))) ∷ [])) Nil)) ∷ [])) ∷ (block ((Stated (stated 13) (Move (integer 0 1) (place (codes "J")))) ∷ [])) ∷ (block ((Stated (stated 14) (Move (integer 1 1) (subscripted ((codes "A") ∷ (codes "T") ∷ []) ((Named ((codes "J") ∷ [])) ∷ [])))) ∷ [])) ∷ [] }) ∷ [];
}

abbrev tables_after : ℕ → JobState
tables_after = after_steps (tables_first ∷ []) []

pub tables-ends_4 : ends_of (tables_after 4) ≡ job.Open ∷ []
tables-ends_4 = refl

pub tables-shown_4 : shown_of (tables_after 4) ≡ (piece (stated 0) ((codes "05xy xy 05xy xy 05xy xy ") ∷ [])) ∷ []
tables-shown_4 = refl

pub tables-ends_7 : ends_of (tables_after 7) ≡ job.Open ∷ []
tables-ends_7 = refl

pub tables-shown_7 : shown_of (tables_after 7) ≡ (piece (stated 0) ((codes "05xy xy 05xy xy 05xy xy ") ∷ [])) ∷ (piece (stated 4) ((codes "87xy xy 05Q  xy 08xy xy ") ∷ [])) ∷ (piece (stated 6) ((codes "ABBCD     ") ∷ [])) ∷ []
tables-shown_7 = refl

pub tables-ends_13 : ends_of (tables_after 13) ≡ job.Open ∷ []
tables-ends_13 = refl

pub tables-shown_13 : shown_of (tables_after 13) ≡ (piece (stated 0) ((codes "05xy xy 05xy xy 05xy xy ") ∷ [])) ∷ (piece (stated 4) ((codes "87xy xy 05Q  xy 08xy xy ") ∷ [])) ∷ (piece (stated 6) ((codes "ABBCD     ") ∷ [])) ∷ (piece (stated 8) ((codes " ") ∷ (codes ",") ∷ (codes "  ") ∷ [])) ∷ (piece (stated 10) ((codes "87xy xy 05Q  xy 08xy x  ") ∷ [])) ∷ []
tables-shown_13 = refl

pub tables-ends_14 : ends_of (tables_after 14) ≡ (Failed answer.Range (stated 14)) ∷ []
tables-ends_14 = refl

pub tables-shown_14 : shown_of (tables_after 14) ≡ (piece (stated 0) ((codes "05xy xy 05xy xy 05xy xy ") ∷ [])) ∷ (piece (stated 4) ((codes "87xy xy 05Q  xy 08xy xy ") ∷ [])) ∷ (piece (stated 6) ((codes "ABBCD     ") ∷ [])) ∷ (piece (stated 8) ((codes " ") ∷ (codes ",") ∷ (codes "  ") ∷ [])) ∷ (piece (stated 10) ((codes "87xy xy 05Q  xy 08xy x  ") ∷ [])) ∷ []
tables-shown_14 = refl

abbrev tests_first : Source
tests_first = record {
  selects = [];
  files = [];
  storage =
      (group 1 (codes "REC")) ∷
      (valued 5 (codes "AGE") (NumberPicture (codes "99")) (integer 41 2)) ∷
      (values_of (codes "YOUNG") ((record { low = integer 0 1; high = Some (integer 19 2) }) ∷ [])) ∷
      (values_of (codes "ODD-ONE") ((record { low = integer 7 1; high = None }) ∷ (record { low = integer 41 2; high = Some (integer 43 2) }) ∷ (record { low = integer 99 2; high = None }) ∷ [])) ∷
      (valued 5 (codes "NAME") (TextPicture (codes "XXXX")) (Text (codes "BOB"))) ∷
      (values_of (codes "BOB") ((record { low = Text (codes "BOB"); high = None }) ∷ [])) ∷
      (values_of (codes "EMPTY-NAME") ((record { low = Figure 32; high = None }) ∷ [])) ∷
      (elementary 5 (codes "BAD") (NumberPicture (codes "99"))) ∷
      (record { level = 5; name = codes "PK"; redefines = false; occurs = None; picture = Some (NumberPicture (codes "S999")); usage = number.Packed; sign = number.Trailing; value = Some (Number (neg_ℤ (pos 5)) 0 1); values = [] }) ∷ [];
  paragraphs =
      (record { name = codes "ONE-PARA"; section = false; sentences = (block ((Stated (stated 0) (If (Holds (place (codes "YOUNG"))) (block ((Stated (stated 1) (Show ((Text (codes "Y")) ∷ []))) ∷ [])) (block ((Stated (stated 2) (Show ((Text (codes "N")) ∷ []))) ∷ [])))) ∷ [])) ∷ (block ((Stated (stated 3) (If (And (And (Holds (place (codes "ODD-ONE"))) (Holds (place (codes "BOB")))) (Not (Holds (place (codes "EMPTY-NAME"))))) (block ((Stated (stated 4) (Show ((Text (codes "ALL")) ∷ []))) ∷ [])) Nil)) ∷ [])) ∷ (block ((Stated (stated 5) (If (And (Relation (One (at_place (codes "AGE"))) Less (One (Number (pos 415) 1 3))) (Relation (One (at_place (codes "AGE"))) Greater (One (integer 40 2)))) (block ((Stated (stated 6) (Show ((Text (codes "NEAR")) ∷ []))) ∷ [])) Nil)) ∷ [])) ∷ (block ((Stated (stated 7) (If (And (Relation (One (at_place (codes "NAME"))) Equal (One (Text (codes "BOB  ")))) (Relation (One (at_place (codes "NAME"))) Less (One (Text (codes "BOBB"))))) (block ((Stated (stated 8) (Show ((Text (codes "TEXT")) ∷ []))) ∷ [])) Nil)) ∷ [])) ∷ (block ((Stated (stated 9) (If (Or (Relation (One (at_place (codes "NAME"))) Equal (One (Text (codes "BOBBY")))) (Relation (One (at_place (codes "AGE"))) Equal (One (Text (codes "41"))))) (block ((Stated (stated 10) (Show ((Text (codes "BYTES")) ∷ []))) ∷ [])) Nil)) ∷ [])) ∷ (block ((Stated (stated 11) (If (And (Sign (One (at_place (codes "PK"))) Less) (Sign (Add (One (at_place (codes "PK"))) (One (integer 5 1))) Equal)) (block ((Stated (stated 12) (Show ((Text (codes "SIGN")) ∷ []))) ∷ [])) Nil)) ∷ [])) ∷ (block ((Stated (stated 13) (If (Numeric (place (codes "BAD"))) (block ((Stated (stated 14) (Show ((Text (codes "NUM")) ∷ []))) ∷ [])) (block ((Stated (stated 15) (Show ((Text (codes "NOT NUM")) ∷ []))) ∷ [])))) ∷ [])) ∷ (block ((Stated (stated 16) (If (And (Numeric (place (codes "PK"))) (Alphabetic (place (codes "NAME")))) (block ((Stated (stated 17) (Show ((Text (codes "CLASS")) ∷ []))) ∷ [])) Nil)) ∷ [])) ∷ (block ((Stated (stated 18) (If (Or (Relation (One (at_place (codes "AGE"))) Equal (One (integer 41 2))) (Relation (One (at_place (codes "BAD"))) Equal (One (integer 3 1)))) (block ((Stated (stated 19) (Show ((Text (codes "SHORT")) ∷ []))) ∷ [])) Nil)) ∷ [])) ∷ (block ((Stated (stated 20) (If (And (Relation (One (at_place (codes "NAME"))) Greater (One (Figure 32))) (Not (Relation (One (at_place (codes "REC"))) Equal (One (Figure 0))))) (block ((Stated (stated 21) (Show ((Text (codes "FIG")) ∷ []))) ∷ [])) Nil)) ∷ [])) ∷ (block ((Stated (stated 22) (If (Or (Relation (One (at_place (codes "AGE"))) Equal (One (Figure 48))) (Relation (One (at_place (codes "NAME"))) Equal (One (Figure 48)))) (block ((Stated (stated 23) NextSentence) ∷ [])) (block ((Stated (stated 24) (Show ((Text (codes "ELSE")) ∷ []))) ∷ (Stated (stated 25) Nothing) ∷ [])))) ∷ [])) ∷ (block ((Stated (stated 26) (Show ((Text (codes "THEN")) ∷ []))) ∷ [])) ∷ (block ((Stated (stated 27) (If (Or (Relation (One (at_place (codes "AGE"))) Equal (One (integer 1 1))) (Relation (One (at_place (codes "AGE"))) Equal (One (integer 2 1)))) (block ((Stated (stated 28) (Show ((Text (codes "LOW")) ∷ []))) ∷ [])) (block ((Stated (stated 29) (If (Relation (One (at_place (codes "AGE"))) Equal (One (integer 41 2))) (block ((Stated (stated 30) (Show ((Text (codes "EV")) ∷ []))) ∷ [])) (block ((Stated (stated 31) (Show ((Text (codes "OTHER")) ∷ []))) ∷ [])))) ∷ [])))) ∷ [])) ∷ (block ((Stated (stated 32) (If (Holds (place (codes "YOUNG"))) (block ((Stated (stated 33) (Show ((Text (codes "Q")) ∷ []))) ∷ [])) (block ((Stated (stated 34) (Show ((Text (codes "R")) ∷ []))) ∷ [])))) ∷ [])) ∷ (block ((Stated (stated 35) (If (Relation (One (at_place (codes "BAD"))) Equal (One (integer 3 1))) (block ((Stated (stated 36) (Show ((Text (codes "NOT HERE")) ∷ []))) ∷ [])) Nil)) ∷ [])) ∷ [] }) ∷ [];
}

abbrev tests_after : ℕ → JobState
tests_after = after_steps (tests_first ∷ []) []

pub tests-ends_10 : ends_of (tests_after 10) ≡ job.Open ∷ []
tests-ends_10 = refl

pub tests-shown_10 : shown_of (tests_after 10) ≡ (piece (stated 2) ((codes "N") ∷ [])) ∷ (piece (stated 4) ((codes "ALL") ∷ [])) ∷ (piece (stated 6) ((codes "NEAR") ∷ [])) ∷ (piece (stated 8) ((codes "TEXT") ∷ [])) ∷ (piece (stated 10) ((codes "BYTES") ∷ [])) ∷ []
tests-shown_10 = refl

pub tests-ends_15 : ends_of (tests_after 15) ≡ job.Open ∷ []
tests-ends_15 = refl

pub tests-shown_15 : shown_of (tests_after 15) ≡ (piece (stated 2) ((codes "N") ∷ [])) ∷ (piece (stated 4) ((codes "ALL") ∷ [])) ∷ (piece (stated 6) ((codes "NEAR") ∷ [])) ∷ (piece (stated 8) ((codes "TEXT") ∷ [])) ∷ (piece (stated 10) ((codes "BYTES") ∷ [])) ∷ (piece (stated 12) ((codes "SIGN") ∷ [])) ∷ (piece (stated 15) ((codes "NOT NUM") ∷ [])) ∷ []
tests-shown_15 = refl

pub tests-ends_29 : ends_of (tests_after 29) ≡ job.Open ∷ []
tests-ends_29 = refl

pub tests-shown_29 : shown_of (tests_after 29) ≡ (piece (stated 2) ((codes "N") ∷ [])) ∷ (piece (stated 4) ((codes "ALL") ∷ [])) ∷ (piece (stated 6) ((codes "NEAR") ∷ [])) ∷ (piece (stated 8) ((codes "TEXT") ∷ [])) ∷ (piece (stated 10) ((codes "BYTES") ∷ [])) ∷ (piece (stated 12) ((codes "SIGN") ∷ [])) ∷ (piece (stated 15) ((codes "NOT NUM") ∷ [])) ∷ (piece (stated 17) ((codes "CLASS") ∷ [])) ∷ (piece (stated 19) ((codes "SHORT") ∷ [])) ∷ (piece (stated 21) ((codes "FIG") ∷ [])) ∷ (piece (stated 24) ((codes "ELSE") ∷ [])) ∷ (piece (stated 26) ((codes "THEN") ∷ [])) ∷ (piece (stated 30) ((codes "EV") ∷ [])) ∷ (piece (stated 34) ((codes "R") ∷ [])) ∷ []
tests-shown_29 = refl

pub tests-ends_30 : ends_of (tests_after 30) ≡ (Failed answer.Data (stated 35)) ∷ []
tests-ends_30 = refl

pub tests-shown_30 : shown_of (tests_after 30) ≡ (piece (stated 2) ((codes "N") ∷ [])) ∷ (piece (stated 4) ((codes "ALL") ∷ [])) ∷ (piece (stated 6) ((codes "NEAR") ∷ [])) ∷ (piece (stated 8) ((codes "TEXT") ∷ [])) ∷ (piece (stated 10) ((codes "BYTES") ∷ [])) ∷ (piece (stated 12) ((codes "SIGN") ∷ [])) ∷ (piece (stated 15) ((codes "NOT NUM") ∷ [])) ∷ (piece (stated 17) ((codes "CLASS") ∷ [])) ∷ (piece (stated 19) ((codes "SHORT") ∷ [])) ∷ (piece (stated 21) ((codes "FIG") ∷ [])) ∷ (piece (stated 24) ((codes "ELSE") ∷ [])) ∷ (piece (stated 26) ((codes "THEN") ∷ [])) ∷ (piece (stated 30) ((codes "EV") ∷ [])) ∷ (piece (stated 34) ((codes "R") ∷ [])) ∷ []
tests-shown_30 = refl

abbrev turns_first : Source
turns_first = record {
  selects = [];
  files = [];
  storage =
      (valued 77 (codes "I") (NumberPicture (codes "99")) (integer 0 1)) ∷
      (valued 77 (codes "J") (NumberPicture (codes "S999")) (integer 0 1)) ∷
      (valued 77 (codes "T") (NumberPicture (codes "99")) (integer 2 1)) ∷ [];
  paragraphs =
      (record { name = codes "MAIN"; section = true; sentences = [] }) ∷
      (record { name = codes "START-PARA"; section = false; sentences = (block ((Stated (stated 0) (Perform (Inline (block ((Stated (stated 1) (Show ((at_place (codes "I")) ∷ []))) ∷ []))) (Until false (Relation (One (at_place (codes "I"))) Greater (One (integer 3 1))) (Some (record { item = place (codes "I"); from = integer 1 1; by = integer 1 1 }))))) ∷ [])) ∷ (block ((Stated (stated 2) (Perform (Inline (block ((Stated (stated 3) (Show ((at_place (codes "J")) ∷ []))) ∷ []))) (Until true (Relation (One (at_place (codes "J"))) Less (One (integer 2 1))) (Some (record { item = place (codes "J"); from = integer 5 1; by = Number (neg_ℤ (pos 2)) 0 1 }))))) ∷ [])) ∷ (block ((Stated (stated 4) (Show ((at_place (codes "J")) ∷ []))) ∷ [])) ∷ (block ((Stated (stated 5) (Perform (Inline (block ((Stated (stated 6) (Compute (place (codes "T")) false (Add (One (integer 1 1)) (One (at_place (codes "T")))) None Absent)) ∷ (Stated (stated 7) (Show ((Text (codes "T")) ∷ (at_place (codes "T")) ∷ []))) ∷ []))) (Times (at_place (codes "T"))))) ∷ [])) ∷ (block ((Stated (stated 8) (Perform (Inline (block ((Stated (stated 9) (Show ((Text (codes "NEVER")) ∷ []))) ∷ []))) (Times (integer 0 1)))) ∷ [])) ∷ (block ((Stated (stated 10) (Perform (Through (codes "A-PARA") (codes "B-PARA")) (Times (integer 2 1)))) ∷ [])) ∷ (block ((Stated (stated 11) (Perform (Through (codes "SUBS") (codes "SUBS")) Once)) ∷ [])) ∷ (block ((Stated (stated 12) (Perform (Through (codes "C-PARA") (codes "C-PARA")) (Until false (Relation (One (at_place (codes "I"))) Greater (One (integer 6 1))) None))) ∷ [])) ∷ (block ((Stated (stated 13) (Perform (Through (codes "OUT-PARA") (codes "OUT-EXIT")) Once)) ∷ [])) ∷ (block ((Stated (stated 14) (Perform (Inline (block ((Stated (stated 15) (Perform (Inline (block ((Stated (stated 16) (Show ((Text (codes "IN")) ∷ []))) ∷ []))) (Times (integer 2 1)))) ∷ []))) (Times (integer 2 1)))) ∷ [])) ∷ (block ((Stated (stated 17) (GoTo (codes "LAST-PARA"))) ∷ [])) ∷ [] }) ∷
      (record { name = codes "A-PARA"; section = false; sentences = (block ((Stated (stated 18) (Show ((Text (codes "A")) ∷ []))) ∷ [])) ∷ [] }) ∷
      (record { name = codes "B-PARA"; section = false; sentences = (block ((Stated (stated 19) (If (Relation (One (at_place (codes "I"))) Equal (One (integer 4 1))) (block ((Stated (stated 20) NextSentence) ∷ [])) (block ((Stated (stated 21) (Show ((Text (codes "NOT")) ∷ []))) ∷ [])))) ∷ [])) ∷ (block ((Stated (stated 22) (Show ((Text (codes "B")) ∷ []))) ∷ [])) ∷ [] }) ∷
      (record { name = codes "C-PARA"; section = false; sentences = (block ((Stated (stated 23) (Compute (place (codes "I")) false (Add (One (integer 1 1)) (One (at_place (codes "I")))) None Absent)) ∷ [])) ∷ (block ((Stated (stated 24) (Show ((Text (codes "C")) ∷ (at_place (codes "I")) ∷ []))) ∷ [])) ∷ [] }) ∷
      (record { name = codes "OUT-PARA"; section = false; sentences = (block ((Stated (stated 25) (Perform (Inline (block ((Stated (stated 26) (Compute (place (codes "I")) false (Sub (One (at_place (codes "I"))) (One (integer 1 1))) None Absent)) ∷ (Stated (stated 27) (If (Relation (One (at_place (codes "I"))) Equal (One (integer 5 1))) (block ((Stated (stated 28) (GoTo (codes "OUT-EXIT"))) ∷ [])) Nil)) ∷ (Stated (stated 29) (Show ((Text (codes "O")) ∷ (at_place (codes "I")) ∷ []))) ∷ []))) (Until false (Relation (One (at_place (codes "I"))) Equal (One (integer 0 1))) None))) ∷ [])) ∷ (block ((Stated (stated 30) (Show ((Text (codes "SKIPPED")) ∷ []))) ∷ [])) ∷ [] }) ∷
      (record { name = codes "OUT-EXIT"; section = false; sentences = (block ((Stated (stated 31) Nothing) ∷ [])) ∷ [] }) ∷
      (record { name = codes "SUBS"; section = true; sentences = [] }) ∷
      (record { name = codes "S-PARA"; section = false; sentences = (block ((Stated (stated 32) (Show ((Text (codes "S1")) ∷ []))) ∷ [])) ∷ [] }) ∷
      (record { name = codes "S-TWO"; section = false; sentences = (block ((Stated (stated 33) (Show ((Text (codes "S2")) ∷ []))) ∷ [])) ∷ [] }) ∷
      (record { name = codes "FINAL-ONES"; section = true; sentences = [] }) ∷
      (record { name = codes "LAST-PARA"; section = false; sentences = (block ((Stated (stated 34) (Show ((Text (codes "L")) ∷ (at_place (codes "I")) ∷ (at_place (codes "J")) ∷ []))) ∷ [])) ∷ (block ((Stated (stated 35) (Perform (Through (codes "S-TWO") (codes "S-TWO")) Once)) ∷ [])) ∷ (block ((Stated (stated 36) (Show ((Text (codes "END")) ∷ []))) ∷ [])) ∷ [] }) ∷ [];
}

abbrev turns_after : ℕ → JobState
turns_after = after_steps (turns_first ∷ []) []

pub turns-ends_27 : ends_of (turns_after 27) ≡ job.Open ∷ []
turns-ends_27 = refl

pub turns-shown_27 : shown_of (turns_after 27) ≡ (piece (stated 1) ((codes "01") ∷ [])) ∷ (piece (stated 1) ((codes "02") ∷ [])) ∷ (piece (stated 1) ((codes "03") ∷ [])) ∷ (piece (stated 3) ((codes "005") ∷ [])) ∷ (piece (stated 3) ((codes "003") ∷ [])) ∷ (piece (stated 3) ((codes "001") ∷ [])) ∷ (piece (stated 4) ((codes "001") ∷ [])) ∷ (piece (stated 7) ((codes "T") ∷ (codes "03") ∷ [])) ∷ []
turns-shown_27 = refl

pub turns-ends_40 : ends_of (turns_after 40) ≡ job.Open ∷ []
turns-ends_40 = refl

pub turns-shown_40 : shown_of (turns_after 40) ≡ (piece (stated 1) ((codes "01") ∷ [])) ∷ (piece (stated 1) ((codes "02") ∷ [])) ∷ (piece (stated 1) ((codes "03") ∷ [])) ∷ (piece (stated 3) ((codes "005") ∷ [])) ∷ (piece (stated 3) ((codes "003") ∷ [])) ∷ (piece (stated 3) ((codes "001") ∷ [])) ∷ (piece (stated 4) ((codes "001") ∷ [])) ∷ (piece (stated 7) ((codes "T") ∷ (codes "03") ∷ [])) ∷ (piece (stated 7) ((codes "T") ∷ (codes "04") ∷ [])) ∷ (piece (stated 18) ((codes "A") ∷ [])) ∷ (piece (stated 22) ((codes "B") ∷ [])) ∷ (piece (stated 18) ((codes "A") ∷ [])) ∷ (piece (stated 22) ((codes "B") ∷ [])) ∷ []
turns-shown_40 = refl

pub turns-ends_80 : ends_of (turns_after 80) ≡ job.Open ∷ []
turns-ends_80 = refl

pub turns-shown_80 : shown_of (turns_after 80) ≡ (piece (stated 1) ((codes "01") ∷ [])) ∷ (piece (stated 1) ((codes "02") ∷ [])) ∷ (piece (stated 1) ((codes "03") ∷ [])) ∷ (piece (stated 3) ((codes "005") ∷ [])) ∷ (piece (stated 3) ((codes "003") ∷ [])) ∷ (piece (stated 3) ((codes "001") ∷ [])) ∷ (piece (stated 4) ((codes "001") ∷ [])) ∷ (piece (stated 7) ((codes "T") ∷ (codes "03") ∷ [])) ∷ (piece (stated 7) ((codes "T") ∷ (codes "04") ∷ [])) ∷ (piece (stated 18) ((codes "A") ∷ [])) ∷ (piece (stated 22) ((codes "B") ∷ [])) ∷ (piece (stated 18) ((codes "A") ∷ [])) ∷ (piece (stated 22) ((codes "B") ∷ [])) ∷ (piece (stated 32) ((codes "S1") ∷ [])) ∷ (piece (stated 33) ((codes "S2") ∷ [])) ∷ (piece (stated 24) ((codes "C") ∷ (codes "05") ∷ [])) ∷ (piece (stated 24) ((codes "C") ∷ (codes "06") ∷ [])) ∷ (piece (stated 24) ((codes "C") ∷ (codes "07") ∷ [])) ∷ (piece (stated 29) ((codes "O") ∷ (codes "06") ∷ [])) ∷ (piece (stated 16) ((codes "IN") ∷ [])) ∷ (piece (stated 16) ((codes "IN") ∷ [])) ∷ (piece (stated 16) ((codes "IN") ∷ [])) ∷ (piece (stated 16) ((codes "IN") ∷ [])) ∷ (piece (stated 34) ((codes "L") ∷ (codes "05") ∷ (codes "001") ∷ [])) ∷ (piece (stated 33) ((codes "S2") ∷ [])) ∷ (piece (stated 36) ((codes "END") ∷ [])) ∷ []
turns-shown_80 = refl

pub turns-ends_81 : ends_of (turns_after 81) ≡ Ended ∷ []
turns-ends_81 = refl

pub turns-shown_81 : shown_of (turns_after 81) ≡ (piece (stated 1) ((codes "01") ∷ [])) ∷ (piece (stated 1) ((codes "02") ∷ [])) ∷ (piece (stated 1) ((codes "03") ∷ [])) ∷ (piece (stated 3) ((codes "005") ∷ [])) ∷ (piece (stated 3) ((codes "003") ∷ [])) ∷ (piece (stated 3) ((codes "001") ∷ [])) ∷ (piece (stated 4) ((codes "001") ∷ [])) ∷ (piece (stated 7) ((codes "T") ∷ (codes "03") ∷ [])) ∷ (piece (stated 7) ((codes "T") ∷ (codes "04") ∷ [])) ∷ (piece (stated 18) ((codes "A") ∷ [])) ∷ (piece (stated 22) ((codes "B") ∷ [])) ∷ (piece (stated 18) ((codes "A") ∷ [])) ∷ (piece (stated 22) ((codes "B") ∷ [])) ∷ (piece (stated 32) ((codes "S1") ∷ [])) ∷ (piece (stated 33) ((codes "S2") ∷ [])) ∷ (piece (stated 24) ((codes "C") ∷ (codes "05") ∷ [])) ∷ (piece (stated 24) ((codes "C") ∷ (codes "06") ∷ [])) ∷ (piece (stated 24) ((codes "C") ∷ (codes "07") ∷ [])) ∷ (piece (stated 29) ((codes "O") ∷ (codes "06") ∷ [])) ∷ (piece (stated 16) ((codes "IN") ∷ [])) ∷ (piece (stated 16) ((codes "IN") ∷ [])) ∷ (piece (stated 16) ((codes "IN") ∷ [])) ∷ (piece (stated 16) ((codes "IN") ∷ [])) ∷ (piece (stated 34) ((codes "L") ∷ (codes "05") ∷ (codes "001") ∷ [])) ∷ (piece (stated 33) ((codes "S2") ∷ [])) ∷ (piece (stated 36) ((codes "END") ∷ [])) ∷ []
turns-shown_81 = refl
