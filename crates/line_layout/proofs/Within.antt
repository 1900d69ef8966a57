-- Laid lines keep to column 72.
use Rattle.std.proofs.Common.{◌≡◌, ℕ, suc, ◌+◌, ◌-◌, ◌<◌, ◌≤◌, Bool, true, false, not, ◌&&◌, ◌||◌, List, [], ◌∷◌, ◌++◌, length, replicate, refl, ap, sym, ◌∙◌, subst, arith, if◌then◌else◌}
use Rattle.std.specs.Prelude.{nat_lt, nat_le, codes}
use Rattle.std.specs.List.{AllByRecursion}
use Rattle.std.specs.Str.{bytes_eq}
use Rattle.std.proofs.lemmas.Bool.Decides.{nat_tests}
use Rattle.std.proofs.lemmas.List.{length-append, length-replicate}
use Rattle.y2k_base.proofs.Each.{each-more}
use Rattle.y2k_base.specs.declared.word.Word.{Word}
use Rattle.y2k_base.specs.declared.word.WordKind.{WordKind}
use Rattle.y2k_base.specs.declared.word.WordKind.TheVariants as kind
use Rattle.line_layout.specs.declared.page.Page.{Page}
use Rattle.line_layout.specs.Spelling.{spelled, doubled, is_name, is_number, is_literal, is_own_name, is_tight_after, begins_area_a}
use Rattle.line_layout.specs.Layout.{put, opened, room, parts_mark, is_half, next_column, fresh_column, filled_one, filled, with_word, with_literal, can_begin, gap, placed, all_placed, first_page, first_blanks, lines_of, laid}
use Rattle.line_layout.proofs.Joined.{blanks-short}
use Rattle.line_layout.specs.Width.{IsWhole, IsWithin, IsShort, KeepsWidth}

pub data Shape (column : ℕ) : List (List ℕ) → ℕ → Type 0 where
  one : Shape column [] (73 - column)
  more : {first : List ℕ} {lines : List (List ℕ)} → IsWithin column (first ∷ lines) → Shape column (first ∷ lines) 66

pub record Fits (column : ℕ) (page : Page) : Type 0 where
  pub now : length page.line ≤ page.limit
  pub shape : Shape column page.lines page.limit

shape-more : (column : ℕ) (lines : List (List ℕ)) (limit : ℕ) (line : List ℕ) → Shape column lines limit → length line ≤ limit → Shape column (lines ++ line ∷ []) 66
shape-more column lines limit line s h =
    elim s as (λ (xs : List (List ℕ)) (n : ℕ) (_ : Shape column xs n). length line ≤ n → Shape column (xs ++ line ∷ []) 66) [
      | one ↦ λ k. more (k, tt)
      | more {first} {lines} w ↦ λ k. more (w.0, each-more IsWhole lines line w.1 k)
    ] h

within-all : (column : ℕ) (lines : List (List ℕ)) (limit : ℕ) → Shape column lines limit → IsWithin column lines
within-all column lines limit s =
    elim s as (λ (xs : List (List ℕ)) (n : ℕ) (_ : Shape column xs n). IsWithin column xs) [ one ↦ tt | more w ↦ w ]

put-fits : (column : ℕ) (page : Page) (bytes : List ℕ) → Fits column page → length bytes ≤ room page → Fits column (put bytes page)
put-fits column page bytes fits h =
    let n : length (page.line ++ bytes) ≡ length page.line + length bytes = length-append page.line bytes in
    let now : length page.line ≤ page.limit = fits.now in
    let small : length bytes ≤ page.limit - length page.line = h in
    record { now = omega arith; shape = fits.shape }

opened-fits : (column indicator at : ℕ) (page : Page) → at ≤ 13 → Fits column page → Fits column (opened indicator at page)
opened-fits column indicator at page small fits =
    let low : suc (at - 8) ≤ 66 = omega arith in
    record { now = subst (λ (n : ℕ). suc n ≤ 66) (sym (length-replicate (at - 8) 32)) low; shape = shape-more column page.lines page.limit page.line fits.shape fits.now }

opened-room : (indicator at : ℕ) (page : Page) → at ≤ 13 → 60 ≤ room (opened indicator at page)
opened-room indicator at page small =
    let low : 60 ≤ 66 - suc (at - 8) = omega arith in subst (λ (n : ℕ). 60 ≤ 66 - suc n) (sym (length-replicate (at - 8) 32)) low

twelve-room : (page : Page) → room (opened 32 12 page) ≡ 61
twelve-room page = refl

one-of : (b : Bool) → (if b then 13 else 12) ≤ 13
one-of true = omega arith
one-of false = omega arith

next-small : (rest : List ℕ) → next_column rest ≤ 13
next-small rest = one-of (is_half false 59 rest)

fresh-small : (text : List ℕ) → fresh_column text ≤ 13
fresh-small text = one-of (parts_mark 60 text)

below : (m n : ℕ) → nat_lt m n ≡ true → m < n
below m n h = grind (arith, nat_tests)

at-most : (m n : ℕ) → nat_le m n ≡ true → m ≤ n
at-most m n h = grind (arith, nat_tests)

put-room : (page : Page) (bytes : List ℕ) → room (put bytes page) ≡ room page - length bytes
put-room page bytes =
    let n : length (page.line ++ bytes) ≡ length page.line + length bytes = length-append page.line bytes in omega arith

one-fits : (column b : ℕ) (rest : List ℕ) (page : Page) → Fits column page → Fits column (filled_one b rest page)
one-fits column b rest page fits =
    elim (nat_lt 0 (room page)) as (λ (t : Bool). nat_lt 0 (room page) ≡ t → Fits column (if t then put (b ∷ []) page else put (b ∷ []) (put (34 ∷ []) (opened 45 (next_column rest) page)))) [
      | true ↦ λ e. let some : 1 ≤ room page = below 0 (room page) e in put-fits column page (b ∷ []) fits some
      | false ↦ λ e.
          let next : Page = opened 45 (next_column rest) page in
          let cells : 60 ≤ room next = opened-room 45 (next_column rest) page (next-small rest) in
          let left : room (put (34 ∷ []) next) ≡ room next - 1 = put-room next (34 ∷ []) in
          put-fits column (put (34 ∷ []) next) (b ∷ []) (put-fits column next (34 ∷ []) (opened-fits column 45 (next_column rest) page (next-small rest) fits) (omega arith)) (omega arith)
    ] refl

filled-fits : (column : ℕ) (text : List ℕ) (page : Page) → Fits column page → Fits column (filled text page)
filled-fits column [] page fits = fits
filled-fits column (b ∷ bs) page fits = filled-fits column bs (filled_one b (b ∷ bs) page) (one-fits column b (b ∷ bs) page fits)

blanks-fit : (column g : ℕ) (page : Page) → Fits column page → g ≤ room page → Fits column (put (replicate g 32) page)
blanks-fit column g page fits h =
    put-fits column page (replicate g 32) fits (subst (λ (n : ℕ). n ≤ room page) (sym (length-replicate g 32)) h)

here-fits : (column g : ℕ) (text : List ℕ) (page : Page) → Fits column page → 1 ≤ length text → length text ≤ room page - g
    → Fits column (put text (put (replicate g 32) page))
here-fits column g text page fits some h =
    let left : room (put (replicate g 32) page) ≡ room page - g = put-room page (replicate g 32) ∙ ap (λ (n : ℕ). room page - n) (length-replicate g 32) in
    let fit : g ≤ room page = omega arith in
    put-fits column (put (replicate g 32) page) text (blanks-fit column g page fits fit) (subst (λ (n : ℕ). length text ≤ n) (sym left) h)

word-fits : (column g : ℕ) (text : List ℕ) (page : Page) → Fits column page → 1 ≤ length text → length text ≤ 61 → Fits column (with_word g text page)
word-fits column g text page fits some short =
    elim (nat_le (length text) (room page - g)) as (λ (t : Bool). nat_le (length text) (room page - g) ≡ t → Fits column (if t then put text (put (replicate g 32) page) else put text (opened 32 12 page))) [
      | true ↦ λ e. here-fits column g text page fits some (at-most (length text) (room page - g) e)
      | false ↦ λ e. put-fits column (opened 32 12 page) text (opened-fits column 32 12 page (omega arith) fits) (subst (λ (n : ℕ). length text ≤ n) (sym (twelve-room page)) short)
    ] refl

begin-room : (g : ℕ) (text : List ℕ) (page : Page) → can_begin g text page ≡ true → g < room page
begin-room g text page h =
    elim (nat_lt g (room page)) as (λ (t : Bool). nat_lt g (room page) ≡ t → (if t then not (parts_mark (room page - g - 1) text) else false) ≡ true → g < room page)
    [ true ↦ λ e k. below g (room page) e | false ↦ λ e k. cc ] refl h

literal-fits : (column g : ℕ) (text : List ℕ) (page : Page) → Fits column page → 1 ≤ length text → Fits column (with_literal g text page)
literal-fits column g text page fits some =
    elim (nat_le (length text) (room page - g)) as (λ (t : Bool). nat_le (length text) (room page - g) ≡ t → Fits column (if t then put text (put (replicate g 32) page) else (if can_begin g text page then filled text (put (replicate g 32) page) else filled text (opened 32 (fresh_column text) page)))) [
      | true ↦ λ e. here-fits column g text page fits some (at-most (length text) (room page - g) e)
      | false ↦ λ e.
          elim (can_begin g text page) as (λ (t : Bool). can_begin g text page ≡ t → Fits column (if t then filled text (put (replicate g 32) page) else filled text (opened 32 (fresh_column text) page))) [
            | true ↦ λ k. let cells : g < room page = begin-room g text page k in filled-fits column text (put (replicate g 32) page) (blanks-fit column g page fits (omega arith))
            | false ↦ λ k. filled-fits column text (opened 32 (fresh_column text) page) (opened-fits column 32 (fresh_column text) page (fresh-small text) fits)
          ] refl
    ] refl

area-no-literal : (w : Word) (ws : List Word) → begins_area_a w ws ≡ true → is_literal w.kind ≡ false
area-no-literal w ws h =
    elim w.kind as (λ (k : WordKind). ((is_name k && (bytes_eq w.text (codes "WORKING-STORAGE") || bytes_eq w.text (codes "PROCEDURE"))) || (is_number k && (bytes_eq w.text (codes "01") && is_own_name ws))) ≡ true → is_literal k ≡ false)
    [ kind.Name ↦ λ e. refl | kind.Number ↦ λ e. refl | kind.Literal ↦ λ e. cc | kind.Picture ↦ λ e. refl | kind.Mark ↦ λ e. refl ] h

both-true : (a b : Bool) → (a && b) ≡ true → b ≡ true
both-true true b h = h
both-true false b h = cc

spelled-is : (w : Word) → is_literal w.kind ≡ false → spelled w ≡ w.text
spelled-is w e = ap (λ (t : Bool). if t then 34 ∷ (doubled w.text ++ (34 ∷ [])) else w.text) e

quoted-some : (w : Word) → is_literal w.kind ≡ true → 1 ≤ length (spelled w)
quoted-some w e =
    let n : length (spelled w) ≡ suc (length (doubled w.text ++ (34 ∷ []))) = ap (λ (t : Bool). length (if t then 34 ∷ (doubled w.text ++ (34 ∷ [])) else w.text)) e in
    omega arith

any-fits : (column : ℕ) (is_first is_tight : Bool) (w : Word) (ws : List Word) (page : Page) → Fits column page → IsShort w
    → Fits column (placed is_first is_tight w ws page)
any-fits column is_first is_tight w ws page fits short =
    elim (not is_first && begins_area_a w ws) as (λ (t : Bool). (not is_first && begins_area_a w ws) ≡ t → Fits column (if t then put (spelled w) (opened 32 8 page) else (if is_literal w.kind then with_literal (gap is_tight w) (spelled w) page else with_word (gap is_tight w) (spelled w) page))) [
      | true ↦ λ e.
          let plain : is_literal w.kind ≡ false = area-no-literal w ws (both-true (not is_first) (begins_area_a w ws) e) in
          let size : length (spelled w) ≡ length w.text = ap length (spelled-is w plain) in
          let most : length w.text ≤ 61 = (short plain).1 in
          let cells : 60 ≤ room (opened 32 8 page) = opened-room 32 8 page (omega arith) in
          let wide : room (opened 32 8 page) ≡ 65 = refl in
          put-fits column (opened 32 8 page) (spelled w) (opened-fits column 32 8 page (omega arith) fits) (omega arith)
      | false ↦ λ e.
          elim (is_literal w.kind) as (λ (t : Bool). is_literal w.kind ≡ t → Fits column (if t then with_literal (gap is_tight w) (spelled w) page else with_word (gap is_tight w) (spelled w) page)) [
            | true ↦ λ k. literal-fits column (gap is_tight w) (spelled w) page fits (quoted-some w k)
            | false ↦ λ k.
                let size : length (spelled w) ≡ length w.text = ap length (spelled-is w k) in
                let least : 1 ≤ length w.text = (short k).0 in
                let most : length w.text ≤ 61 = (short k).1 in
                word-fits column (gap is_tight w) (spelled w) page fits (omega arith) (omega arith)
          ] refl
    ] refl

all-fits : (column : ℕ) (is_first is_tight : Bool) (ws : List Word) (page : Page) → Fits column page → AllByRecursion IsShort ws
    → Fits column (all_placed is_first is_tight ws page)
all-fits column is_first is_tight [] page fits short = fits
all-fits column is_first is_tight (w ∷ ws) page fits short =
    all-fits column false (is_tight_after w) ws (placed is_first is_tight w ws page) (any-fits column is_first is_tight w ws page fits short.0) short.1

first-fits : (column : ℕ) (words : List Word) → Fits column (first_page column words)
first-fits column words =
    let h : first_blanks column words ≤ 12 - column = blanks-short column words in
    let low : first_blanks column words ≤ 73 - column = omega arith in
    record { now = subst (λ (n : ℕ). n ≤ 73 - column) (sym (length-replicate (first_blanks column words) 32)) low; shape = one }

pub laid-within : (column : ℕ) (words : List Word) → KeepsWidth words column (laid column words)
laid-within column words short =
    let fits = all-fits column true true words (first_page column words) (first-fits column words) short in
    let page : Page = all_placed true true words (first_page column words) in
    within-all column (lines_of page) 66 (shape-more column page.lines page.limit page.line fits.shape fits.now)
