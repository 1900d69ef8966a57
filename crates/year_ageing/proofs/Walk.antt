-- Records that are walked cut by cut.
use Rattle.std.proofs.Common.{◌≡◌, ℕ, zero, suc, ◌+◌, ◌-◌, ◌*◌, ◌<◌, ◌≤◌, List, [], ◌∷◌, ◌++◌, length, take, drop, Option, Some, None, refl, sym, ap, ◌∙◌, subst, arith, append_assoc, append-nil, length-append, length-drop}
use Rattle.std.specs.Prelude.{replicate, ℤ}
use Rattle.std.proofs.lemmas.List.{drop-drop, length-take-le, take-append-drop, take_all, drop_all, take_at, drop_at}
use Rattle.byte_lists.specs.Part.{part, with_part}
use Rattle.year_image.specs.Piece.{Piece, Keep, Pair, Packed, width, grown_width, size, grown_size}
use Rattle.file_convert.specs.Cuts.{piece_of, pieces, pieces_from, IsFitting, IsInOrder, IsInOrderFrom}
use Rattle.file_convert.specs.declared.cut.Cut.{Cut}
use Rattle.file_convert.specs.declared.cut.Cuts.{Cuts}
use Rattle.file_convert.proofs.CutLemmas.{order_end, growths, growths_le, size-pieces, grown_size-pieces}
use Rattle.year_ageing.specs.declared.side.Side.{Side}
use Rattle.year_ageing.specs.declared.side.Side.TheVariants as sides
use Rattle.year_ageing.specs.declared.fault.AgeKind.{AgeKind}
use Rattle.year_ageing.specs.declared.record.Spot.{Spot}
use Rattle.year_ageing.specs.declared.task.Task.{Task}
use Rattle.year_ageing.specs.declared.task.Task.TheVariants as tasks
use Rattle.year_ageing.specs.Years.{side_width, task_side, fault_of, change_of}
use Rattle.year_ageing.specs.Records.{side_length, changed_by, spot_or, first_by}

-- how many bytes pieces have on a side
abbrev pub side_size : Side → List Piece → ℕ
side_size side [] = 0
side_size side (p ∷ ps) = side_width side p + side_size side ps

pub size-old : (ps : List Piece) → side_size sides.Old ps ≡ size ps
size-old [] = refl
size-old (p ∷ ps) = ap (λ n. width p + n) (size-old ps)

pub size-new : (ps : List Piece) → side_size sides.New ps ≡ grown_size ps
size-new [] = refl
size-new (p ∷ ps) = ap (λ n. grown_width p + n) (size-new ps)

keep_width : (side : Side) → side_width side Keep ≡ 1
keep_width sides.Old = refl
keep_width sides.New = refl

pub size-gap : (side : Side) (k : ℕ) (ps : List Piece) → side_size side (replicate k Keep ++ ps) ≡ k + side_size side ps
size-gap side zero ps = omega arith
size-gap side (suc k) ps = omega (arith, keep_width side, size-gap side k ps)

-- the record has as many bytes as its pieces
pub size-whole : (side : Side) (cuts : Cuts) → IsInOrder cuts → side_size side (pieces cuts) ≡ side_length side cuts
size-whole sides.Old cuts h = size-old (pieces cuts) ∙ omega (arith, size-pieces 0 cuts.length cuts.list h.2)
size-whole sides.New cuts h = size-new (pieces cuts)

-- and at most twice the bytes of the old record
pub length_most : (side : Side) (cuts : Cuts) → IsInOrder cuts → side_length side cuts ≤ 131070
length_most sides.Old cuts h = omega (arith, h.1)
length_most sides.New cuts h = omega (arith, h.1, grown_size-pieces 0 cuts.length cuts.list h.2, growths_le 0 cuts.length cuts.list h.2)

-- where the next cut begins and ends
pub room_next : (side : Side) (from to end whole : ℕ) (c : Cut) (cs : List Cut) → to + side_size side (pieces_from from end (c ∷ cs)) ≡ whole → to + (c.offset - from) + side_width side (piece_of c) + side_size side (pieces_from (c.offset + width (piece_of c)) end cs) ≡ whole
room_next side from to end whole c cs room = omega (arith, room, size-gap side (c.offset - from) (piece_of c ∷ pieces_from (c.offset + width (piece_of c)) end cs))

pub change_keep : (task : Task) (bs : List ℕ) → change_of task Keep bs ≡ bs
change_keep (tasks.Age side years) bs = refl
change_keep tasks.Contract bs = refl

pub fault_keep : (task : Task) (bs : List ℕ) → fault_of task Keep bs ≡ None
fault_keep (tasks.Age sides.Old years) bs = refl
fault_keep (tasks.Age sides.New years) bs = refl
fault_keep tasks.Contract bs = refl

module _ (side : Side) (change : Piece → List ℕ → List ℕ) (keeps : (bs : List ℕ) → change Keep bs ≡ bs) where
  -- what lies before a cut stays
  pub changed-gap : (k : ℕ) (ps : List Piece) (bs : List ℕ) → k ≤ length bs → changed_by side change (replicate k Keep ++ ps) bs ≡ take k bs ++ changed_by side change ps (drop k bs)
  changed-gap zero ps bs h = refl
  changed-gap (suc k) ps [] h = absurd (omega arith)
  changed-gap (suc k) ps (b ∷ bs) h =
      ap (λ (l : List ℕ). l ++ changed_by side change (replicate k Keep ++ ps) (drop (side_width side Keep) (b ∷ bs))) (keeps (take (side_width side Keep) (b ∷ bs)))
      ∙ ap (λ n. take n (b ∷ bs) ++ changed_by side change (replicate k Keep ++ ps) (drop n (b ∷ bs))) (keep_width side)
      ∙ ap (λ (l : List ℕ). b ∷ l) (changed-gap k ps bs (omega arith))

  -- the next cut
  pub changed-at : (from to end start : ℕ) (c : Cut) (cs : List Cut) (bs : List ℕ) → start ≡ to + (c.offset - from) → start ≤ length bs → changed_by side change (pieces_from from end (c ∷ cs)) (drop to bs) ≡ part bs to (c.offset - from) ++ (change (piece_of c) (part bs start (side_width side (piece_of c))) ++ changed_by side change (pieces_from (c.offset + width (piece_of c)) end cs) (drop (start + side_width side (piece_of c)) bs))
  changed-at from to end start c cs bs e h =
      let p = piece_of c in
      let gap = c.offset - from in
      let w = side_width side p in
      let ps = pieces_from (c.offset + width p) end cs in
      let there : drop gap (drop to bs) ≡ drop start bs = drop-drop gap to bs ∙ ap (λ n. drop n bs) (sym e) in
      changed-gap gap (p ∷ ps) (drop to bs) (omega (arith, e, h, length-drop to bs))
      ∙ ap (λ (l : List ℕ). part bs to gap ++ (change p (take w l) ++ changed_by side change ps (drop w l))) there
      ∙ ap (λ (l : List ℕ). part bs to gap ++ (change p (part bs start w) ++ changed_by side change ps l)) (drop-drop w start bs)

  -- one cut more is changed in place
  pub changed-step : (from to end start : ℕ) (c : Cut) (cs : List Cut) (bs new whole : List ℕ) → start ≡ to + (c.offset - from) → start + side_width side (piece_of c) ≤ length bs →
      length (change (piece_of c) (part bs start (side_width side (piece_of c)))) ≡ side_width side (piece_of c) →
      new ≡ with_part bs start (change (piece_of c) (part bs start (side_width side (piece_of c)))) →
      take to bs ++ changed_by side change (pieces_from from end (c ∷ cs)) (drop to bs) ≡ whole →
      take (start + side_width side (piece_of c)) new ++ changed_by side change (pieces_from (c.offset + width (piece_of c)) end cs) (drop (start + side_width side (piece_of c)) new) ≡ whole
  changed-step from to end start c cs bs new whole e h lx n done =
      let p = piece_of c in
      let gap = c.offset - from in
      let w = side_width side p in
      let ps = pieces_from (c.offset + width p) end cs in
      let xs = change p (part bs start w) in
      let lt : length (take start bs) ≡ start = length-take-le start bs (omega arith) in
      let la : length (take start bs ++ xs) ≡ start + w = omega (arith, length-append (take start bs) xs) in
      let split : new ≡ (take start bs ++ xs) ++ drop (start + w) bs =
      n ∙ ap (λ k. take start bs ++ (xs ++ drop (start + k) bs)) lx ∙ sym (append_assoc (take start bs) xs (drop (start + w) bs)) in
      let front : take (start + w) new ≡ take start bs ++ xs = ap (take (start + w)) split ∙ take_at (take start bs ++ xs) (drop (start + w) bs) (start + w) la in
      let back : drop (start + w) new ≡ drop (start + w) bs = ap (drop (start + w)) split ∙ drop_at (take start bs ++ xs) (drop (start + w) bs) (start + w) la in
      let before : take start bs ≡ take to bs ++ part bs to gap = ap (λ k. take k bs) e ∙ two_takes to gap bs in
      let rest = changed_by side change ps (drop (start + w) bs) in
      ap (λ (l : List ℕ). l ++ changed_by side change ps (drop (start + w) new)) front
      ∙ ap (λ (l : List ℕ). (take start bs ++ xs) ++ changed_by side change ps l) back
      ∙ append_assoc (take start bs) xs rest
      ∙ ap (λ (l : List ℕ). l ++ (xs ++ rest)) before
      ∙ append_assoc (take to bs) (part bs to gap) (xs ++ rest)
      ∙ ap (λ (l : List ℕ). take to bs ++ l) (sym (changed-at from to end start c cs bs e (omega arith)))
      ∙ done
    where
      empty : (m : ℕ) → take {A = ℕ} m [] ≡ []
      empty zero = refl
      empty (suc m) = refl

      two_takes : (n m : ℕ) (xs : List ℕ) → take (n + m) xs ≡ take n xs ++ take m (drop n xs)
      two_takes zero m xs = let e : 0 + m ≡ m = omega arith in ap (λ k. take k xs) e
      two_takes (suc n) m [] = empty (suc n + m) ∙ sym (empty m)
      two_takes (suc n) m (x ∷ xs) = let e : suc n + m ≡ suc (n + m) = omega arith in ap (λ k. take k (x ∷ xs)) e ∙ ap (λ (l : List ℕ). x ∷ l) (two_takes n m xs)

  -- what lies behind the last cut stays
  pub changed-end : (from to end : ℕ) (bs whole : List ℕ) → to + side_size side (pieces_from from end []) ≡ length bs → take to bs ++ changed_by side change (pieces_from from end []) (drop to bs) ≡ whole → bs ≡ whole
  changed-end from to end bs whole room done =
      let k = end - from in
      let ps : List Piece = [] in
      let size_is : side_size side (replicate k Keep) ≡ k = ap (side_size side) (sym (append-nil (replicate k Keep))) ∙ size-gap side k ps ∙ omega arith in
      let lb : length (drop to bs) ≡ k = omega (arith, length-drop to bs, size_is, room) in
      let same : changed_by side change (replicate k Keep) (drop to bs) ≡ drop to bs =
      ap (λ (qs : List Piece). changed_by side change qs (drop to bs)) (sym (append-nil (replicate k Keep)))
      ∙ changed-gap k ps (drop to bs) (omega (arith, lb)) ∙ append-nil (take k (drop to bs)) ∙ take_all k (drop to bs) (omega (arith, lb)) in
      sym (take-append-drop to bs) ∙ ap (λ (l : List ℕ). take to bs ++ l) (sym same) ∙ done

module _ (side : Side) (fault : Piece → List ℕ → Option AgeKind) (keeps : (bs : List ℕ) → fault Keep bs ≡ None) where
  first-gap : (k at : ℕ) (ps : List Piece) (bs : List ℕ) → first_by side fault at (replicate k Keep ++ ps) bs ≡ first_by side fault (at + k) ps (drop k bs)
  first-gap zero at ps bs = let e : at ≡ at + 0 = omega arith in ap (λ n. first_by side fault n ps bs) e
  first-gap (suc k) at ps bs =
      let e : at + 1 + k ≡ at + suc k = omega arith in
      let f : 1 + k ≡ suc k = omega arith in
      ap (λ (o : Option AgeKind). spot_or at (side_width side Keep) o (first_by side fault (at + side_width side Keep) (replicate k Keep ++ ps) (drop (side_width side Keep) bs))) (keeps (take (side_width side Keep) bs))
      ∙ ap (λ n. first_by side fault (at + n) (replicate k Keep ++ ps) (drop n bs)) (keep_width side)
      ∙ first-gap k (at + 1) ps (drop 1 bs)
      ∙ ap (λ (l : List ℕ). first_by side fault (at + 1 + k) ps l) (drop-drop k 1 bs ∙ ap (λ n. drop n bs) f)
      ∙ ap (λ n. first_by side fault n ps (drop (suc k) bs)) e

  -- the next cut
  pub first-at : (from to end start : ℕ) (c : Cut) (cs : List Cut) (bs : List ℕ) → start ≡ to + (c.offset - from) →
      first_by side fault to (pieces_from from end (c ∷ cs)) (drop to bs) ≡ spot_or start (side_width side (piece_of c)) (fault (piece_of c) (part bs start (side_width side (piece_of c)))) (first_by side fault (start + side_width side (piece_of c)) (pieces_from (c.offset + width (piece_of c)) end cs) (drop (start + side_width side (piece_of c)) bs))
  first-at from to end start c cs bs e =
      let p = piece_of c in
      let gap = c.offset - from in
      let w = side_width side p in
      let ps = pieces_from (c.offset + width p) end cs in
      let there : drop gap (drop to bs) ≡ drop start bs = drop-drop gap to bs ∙ ap (λ n. drop n bs) (sym e) in
      first-gap gap to (p ∷ ps) (drop to bs)
      ∙ ap (λ n. first_by side fault n (p ∷ ps) (drop gap (drop to bs))) (sym e)
      ∙ ap (λ (l : List ℕ). spot_or start w (fault p (take w l)) (first_by side fault (start + w) ps (drop w l))) there
      ∙ ap (λ (l : List ℕ). spot_or start w (fault p (part bs start w)) (first_by side fault (start + w) ps l)) (drop-drop w start bs)

  pub first-end : (from to end : ℕ) (bs : List ℕ) → first_by side fault to (pieces_from from end []) (drop to bs) ≡ None
  first-end from to end bs =
      ap (λ (qs : List Piece). first_by side fault to qs (drop to bs)) (sym (append-nil (replicate (end - from) Keep))) ∙ first-gap (end - from) to [] (drop to bs)
