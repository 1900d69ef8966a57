-- Reading line by line gives the words and the first fault of the lines.
use Rattle.std.proofs.Common.{◌≡◌, ℕ, ◌+◌, ◌-◌, ◌≤◌, Bool, true, false, List, [], ◌∷◌, ◌++◌, length, take, drop, replicate, Option, None, refl, ap, sym, subst, ◌∙◌, arith}
use Rattle.std.proofs.lemmas.List.{append-nil, append_assoc, length-append, take_all, take-append-le, take-append-drop}
use Rattle.y2k_base.specs.declared.word.FileId.{FileId}
use Rattle.y2k_base.specs.declared.word.Word.{Word}
use Rattle.fixed_format.specs.declared.fault.LineKind.TheVariants as k
use Rattle.fixed_format.specs.declared.fault.Fault.{Fault}
use Rattle.fixed_format.specs.declared.lines.Reading.{Reading}
use Rattle.fixed_format.specs.declared.runs.Placed.{Placed}
use Rattle.fixed_format.specs.declared.join.Joint.{Joint}
use Rattle.fixed_format.specs.declared.join.Joint.TheVariants as j
use Rattle.fixed_format.specs.declared.join.Tail.{Tail}
use Rattle.fixed_format.specs.declared.columns.LineSort.{LineSort}
use Rattle.fixed_format.specs.declared.columns.LineSort.TheVariants as s
use Rattle.fixed_format.specs.declared.piece.Expected.{Expected}
use Rattle.fixed_format.specs.declared.piece.Expected.TheVariants as e
use Rattle.fixed_format.specs.declared.mode.Mode.{Mode}
use Rattle.fixed_format.specs.Columns.{blanks, body, cells, line_sort, comment_goes_on}
use Rattle.fixed_format.specs.Faults.{earlier}
use Rattle.fixed_format.specs.Words.{faults_of, earliest}
use Rattle.fixed_format.specs.Modes.{step, steps, open_mark, front_mode}
use Rattle.fixed_format.specs.Reading.{with_chars, with_cells, with_mode, with_known_mode, with_spaces, empty_tail, with_line, with_fault, continued, read_from, read_all, nothing_read}
use Rattle.fixed_format.specs.Joined.{Row, rows, placed, Joined, joined_by, continued_by, joint, joint_of, words_before, words_before_joint, row_words, faults_before, faults_before_joint, row_faults, line_fault, column_of, words_in, faults_in}
use Rattle.fixed_format.proofs.PartLaws.{earliest_option, earliest_append}
use Rattle.fixed_format.proofs.ModeLaws.{mode_tells}

abbrev seen : Reading → Joined
seen r = record { expected = r.expected; is_begun = r.is_begun; chars = r.tail.chars; line = r.line; column = r.column }

chars_cells : (chars : List Placed) (bs : List ℕ) (line column : ℕ) → with_chars chars bs line column ≡ chars ++ placed line column bs
chars_cells chars [] line column = sym (append-nil chars)
chars_cells chars (b ∷ bs) line column =
    let c : Placed = record { byte = b; line = line; column = column } in
    chars_cells (chars ++ c ∷ []) bs line (column + 1)
    ∙ append_assoc chars (c ∷ []) (placed line (column + 1) bs)

-- the mode is that of the characters for which it is known
abbrev Told : Expected → Tail → Type 0
Told e tail = (tail.mode ≡ steps (front_mode e) (take tail.known tail.chars)) × (tail.known ≤ length tail.chars)

steps_append : (mode : Mode) (xs ys : List Placed) → steps mode (xs ++ ys) ≡ steps (steps mode xs) ys
steps_append mode [] ys = refl
steps_append mode (x ∷ xs) ys = steps_append (step mode x.byte) xs ys

mode_whole : (e : Expected) (tail : Tail) → Told e tail → (with_mode tail).mode ≡ steps (front_mode e) tail.chars
mode_whole e tail told =
    ap (λ (m : Mode). steps m (drop tail.known tail.chars)) told.0
    ∙ sym (steps_append (front_mode e) (take tail.known tail.chars) (drop tail.known tail.chars))
    ∙ ap (λ (cs : List Placed). steps (front_mode e) cs) (take-append-drop tail.known tail.chars)

told_mode : (e : Expected) (tail : Tail) → Told e tail → Told e (with_mode tail)
told_mode e tail told =
    let within : length tail.chars ≤ length tail.chars = omega arith in
    (mode_whole e tail told ∙ sym (ap (λ (cs : List Placed). steps (front_mode e) cs) (take_all (length tail.chars) tail.chars within)), within)

told_cells : (e : Expected) (tail : Tail) (bs : List ℕ) (line column : ℕ) → Told e tail → Told e (with_cells tail bs line column)
told_cells e tail bs line column told =
    let more : List Placed = placed line column bs in
    let longer : tail.chars ++ more ≡ with_chars tail.chars bs line column = sym (chars_cells tail.chars bs line column) in
    let within : tail.known ≤ length (tail.chars ++ more) = omega (arith, told.1, length-append tail.chars more) in
    subst (λ (cs : List Placed). (tail.mode ≡ steps (front_mode e) (take tail.known cs)) × (tail.known ≤ length cs)) longer
    (told.0 ∙ ap (λ (cs : List Placed). steps (front_mode e) cs) (sym (take-append-le tail.known tail.chars more told.1)), within)

told_empty : (e : Expected) → Told e (empty_tail e)
told_empty e = (refl, omega arith)

-- how a continuation goes on, by the mode
abbrev joint_read : Reading → List ℕ → Joint
joint_read r cs = joint_of r.is_begun (open_mark (with_mode r.tail).mode) cs

joint_told : (r : Reading) (cs : List ℕ) → Told r.expected r.tail → joint_read r cs ≡ joint (seen r) cs
joint_told r cs told =
    ap (λ (mark : Option ℕ). joint_of r.is_begun mark cs)
    (ap (λ (m : Mode). open_mark m) (mode_whole r.expected r.tail told) ∙ mode_tells r.expected r.tail.chars)

joint_words : (t : Joint) (file : FileId) (r : Reading) (m : ℕ) (cs : List ℕ) → (continued t file r m cs).words ≡ r.words ++ words_before_joint file t (seen r)
joint_words j.Bad file r m cs = refl
joint_words j.InLiteral file r m cs = sym (append-nil r.words)
joint_words j.AfterText file r m cs = sym (append-nil r.words)

abbrev with_these : Joined → List Placed → ℕ → List ℕ → Joined
with_these t chars m cs = record { expected = t.expected; is_begun = true; chars = chars; line = m; column = column_of (length cs) }

joint_seen : (t : Joint) (file : FileId) (r : Reading) (m : ℕ) (cs : List ℕ) → seen (continued t file r m cs) ≡ continued_by t (seen r) m cs
joint_seen j.Bad file r m cs = refl
joint_seen j.InLiteral file r m cs =
    let spaced : Tail = with_spaces r.tail r.line r.column in
    ap (λ (chars : List Placed). with_these (seen r) chars m cs)
    (chars_cells spaced.chars (drop (blanks cs + 1) cs) m (column_of (blanks cs + 1))
    ∙ ap (λ (chars : List Placed). chars ++ placed m (column_of (blanks cs + 1)) (drop (blanks cs + 1) cs)) (chars_cells r.tail.chars (replicate (73 - r.column) 32) r.line r.column))
joint_seen j.AfterText file r m cs =
    ap (λ (chars : List Placed). with_these (seen r) chars m cs) (chars_cells r.tail.chars (drop (blanks cs) cs) m (column_of (blanks cs)))

joint_mode : (t : Joint) (file : FileId) (r : Reading) (m : ℕ) (cs : List ℕ) → Told r.expected r.tail → Told (continued t file r m cs).expected (continued t file r m cs).tail
joint_mode j.Bad file r m cs told = told_empty (continued j.Bad file r m cs).expected
joint_mode j.InLiteral file r m cs told =
    told_cells r.expected (with_spaces r.tail r.line r.column) (drop (blanks cs + 1) cs) m (column_of (blanks cs + 1)) (told_cells r.expected r.tail (replicate (73 - r.column) 32) r.line r.column told)
joint_mode j.AfterText file r m cs told = told_cells r.expected r.tail (drop (blanks cs) cs) m (column_of (blanks cs)) told

joint_fault : (t : Joint) (file : FileId) (r : Reading) (m : ℕ) (cs : List ℕ) → (continued t file r m cs).fault ≡ earliest r.fault (faults_before_joint t (seen r) m)
joint_fault j.Bad file r m cs = sym (earliest_append r.fault (faults_of true r.expected r.tail.chars) (record { kind = k.BadContinuation; line = m; column = 7 } ∷ []))
joint_fault j.InLiteral file r m cs = refl
joint_fault j.AfterText file r m cs = refl

line_words : (sort : LineSort) (file : FileId) (r : Reading) (m : ℕ) (line : List ℕ) → Told r.expected r.tail
    → (with_line file r sort m line).words ≡ r.words ++ words_before file (seen r) sort line
line_words s.Plain file r m line told = refl
line_words s.Continuation file r m line told =
    joint_words (joint_read r (cells (body line))) file (with_known_mode r) m (cells (body line))
    ∙ ap (λ (t : Joint). r.words ++ words_before_joint file t (seen r)) (joint_told r (cells (body line)) told)
line_words s.Comment file r m line told = sym (append-nil r.words)
line_words s.Inner file r m line told = sym (append-nil r.words)
line_words s.Opening file r m line told = sym (append-nil r.words)

line_seen : (sort : LineSort) (file : FileId) (r : Reading) (m : ℕ) (line : List ℕ) → Told r.expected r.tail
    → seen (with_line file r sort m line) ≡ joined_by (seen r) sort m line
line_seen s.Plain file r m line told =
    ap (λ (chars : List Placed). with_these (seen (with_line file r s.Plain m line)) chars m (cells (body line))) (chars_cells [] (cells (body line)) m 8)
line_seen s.Continuation file r m line told =
    joint_seen (joint_read r (cells (body line))) file (with_known_mode r) m (cells (body line))
    ∙ ap (λ (t : Joint). continued_by t (seen r) m (cells (body line))) (joint_told r (cells (body line)) told)
line_seen s.Comment file r m line told = refl
line_seen s.Inner file r m line told = refl
line_seen s.Opening file r m line told = refl

line_mode : (sort : LineSort) (file : FileId) (r : Reading) (m : ℕ) (line : List ℕ) → Told r.expected r.tail
    → Told (with_line file r sort m line).expected (with_line file r sort m line).tail
line_mode s.Plain file r m line told =
    let e : Expected = (with_line file r s.Plain m line).expected in
    told_cells e (empty_tail e) (cells (body line)) m 8 (told_empty e)
line_mode s.Continuation file r m line told = joint_mode (joint_read r (cells (body line))) file (with_known_mode r) m (cells (body line)) (told_mode r.expected r.tail told)
line_mode s.Comment file r m line told = told
line_mode s.Inner file r m line told = told
line_mode s.Opening file r m line told = told

line_faults : (sort : LineSort) (file : FileId) (r : Reading) (m : ℕ) (line : List ℕ) → Told r.expected r.tail
    → (with_line file r sort m line).fault ≡ earliest r.fault (faults_before (seen r) sort m line)
line_faults s.Plain file r m line told = refl
line_faults s.Continuation file r m line told =
    joint_fault (joint_read r (cells (body line))) file (with_known_mode r) m (cells (body line))
    ∙ ap (λ (t : Joint). earliest r.fault (faults_before_joint t (seen r) m)) (joint_told r (cells (body line)) told)
line_faults s.Comment file r m line told = refl
line_faults s.Inner file r m line told = refl
line_faults s.Opening file r m line told = refl

reads_row_words : (file : FileId) (r : Reading) (in_comment : Bool) (n : ℕ) (ls : List (List ℕ)) → Told r.expected r.tail
    → (read_from file r in_comment n ls).words ≡ r.words ++ row_words file (seen r) (rows in_comment n ls)
reads_row_words file r in_comment n [] told = refl
reads_row_words file r in_comment n (line ∷ rest) told =
    let sort : LineSort = line_sort in_comment (body line) in
    let before : Reading = with_fault r (line_fault sort line (n + 1)) in
    let next : Reading = with_line file before sort (n + 1) line in
    let further : List Row = rows (comment_goes_on in_comment sort) (n + 1) rest in
    reads_row_words file next (comment_goes_on in_comment sort) (n + 1) rest (line_mode sort file before (n + 1) line told)
    ∙ ap (λ (t : Joined). next.words ++ row_words file t further) (line_seen sort file before (n + 1) line told)
    ∙ ap (λ (ws : List Word). ws ++ row_words file (joined_by (seen r) sort (n + 1) line) further) (line_words sort file before (n + 1) line told)
    ∙ append_assoc r.words (words_before file (seen r) sort line) (row_words file (joined_by (seen r) sort (n + 1) line) further)

reads_row_faults : (file : FileId) (r : Reading) (in_comment : Bool) (n : ℕ) (ls : List (List ℕ)) → Told r.expected r.tail
    → (read_from file r in_comment n ls).fault ≡ earliest r.fault (row_faults (seen r) (rows in_comment n ls))
reads_row_faults file r in_comment n [] told = refl
reads_row_faults file r in_comment n (line ∷ rest) told =
    let sort : LineSort = line_sort in_comment (body line) in
    let own : Option Fault = line_fault sort line (n + 1) in
    let before : Reading = with_fault r own in
    let next : Reading = with_line file before sort (n + 1) line in
    let further : List Row = rows (comment_goes_on in_comment sort) (n + 1) rest in
    let ended : List Fault = faults_before (seen r) sort (n + 1) line in
    let later : List Fault = row_faults (joined_by (seen r) sort (n + 1) line) further in
    reads_row_faults file next (comment_goes_on in_comment sort) (n + 1) rest (line_mode sort file before (n + 1) line told)
    ∙ ap (λ (t : Joined). earliest next.fault (row_faults t further)) (line_seen sort file before (n + 1) line told)
    ∙ ap (λ (known : Option Fault). earliest known later) (line_faults sort file before (n + 1) line told)
    ∙ sym (earliest_append (earlier r.fault own) ended later)
    ∙ sym (earliest_option r.fault own (ended ++ later))

pub reads_text_words : (file : FileId) (lines : List (List ℕ)) → (read_all file lines).words ≡ words_in file lines
reads_text_words file lines = reads_row_words file nothing_read false 0 lines (told_empty e.Any)

pub reads_text_fault : (file : FileId) (lines : List (List ℕ)) → (read_all file lines).fault ≡ earliest None (faults_in lines)
reads_text_fault file lines = reads_row_faults file nothing_read false 0 lines (told_empty e.Any)
