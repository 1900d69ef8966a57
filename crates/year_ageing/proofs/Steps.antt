-- One step of a walk over the cuts of a record.
use Rattle.std.proofs.Common.{◌≡◌, ℕ, ◌+◌, ◌-◌, ◌<◌, ◌≤◌, List, [], ◌∷◌, ◌++◌, length, take, drop, get_or, Option, Some, None, refl, sym, ap, ◌∙◌, subst, arith, length-drop}
use Rattle.std.specs.Prelude.{ℤ}
use Rattle.std.proofs.lemmas.List.{drop_more, length-take-le}
use Rattle.byte_lists.specs.Part.{part, with_part}
use Rattle.year_image.specs.Piece.{Piece, Keep, width}
use Rattle.file_convert.specs.Cuts.{piece_of, pieces_from, IsFitting, IsInOrderFrom}
use Rattle.file_convert.specs.declared.cut.Cut.{Cut}
use Rattle.file_convert.proofs.CutLemmas.{no_cut, order_more, order_end}
use Rattle.year_ageing.specs.declared.side.Side.{Side}
use Rattle.year_ageing.specs.declared.fault.AgeKind.{AgeKind}
use Rattle.year_ageing.specs.declared.record.Spot.{Spot}
use Rattle.year_ageing.specs.declared.task.Task.TheVariants as tasks
use Rattle.year_ageing.specs.Years.{side_width, aged}
use Rattle.year_ageing.specs.Records.{changed_by, spot_or, first_by}
use Rattle.year_ageing.proofs.Walk.{side_size, room_next, changed-step, first-at, change_keep}
use Rattle.year_ageing.proofs.AgedLengths.{length-aged}

module _ (from to end : ℕ) (cs : List Cut) (i : ℕ) (l : i < length cs) where
  abbrev here : Cut
  here = get_or cs i no_cut

  abbrev rest : List Cut
  rest = drop (i + 1) cs

  -- the next cut lies within the old record
  pub next_inside : IsInOrderFrom from end (drop i cs) → here.offset + width (piece_of here) ≤ end
  next_inside h = order_end (here.offset + width (piece_of here)) end rest (order_more from end cs i l h).2

  pub next_order : (n : ℕ) → n ≡ width (piece_of here) → IsInOrderFrom from end (drop i cs) → IsInOrderFrom (here.offset + n) end rest
  next_order n e h = let P : ℕ → Type 0 = λ m. IsInOrderFrom (here.offset + m) end rest in subst P (sym e) (order_more from end cs i l h).2

  pub next_room : (side : Side) (whole wide n : ℕ) → wide ≡ side_width side (piece_of here) → n ≡ width (piece_of here) → to + side_size side (pieces_from from end (drop i cs)) ≡ whole → to + (here.offset - from) + wide + side_size side (pieces_from (here.offset + n) end rest) ≡ whole
  next_room side whole wide n ew en room =
      let now : to + side_size side (pieces_from from end (here ∷ rest)) ≡ whole = ap (λ (k : List Cut). to + side_size side (pieces_from from end k)) (sym (drop_more cs i no_cut l)) ∙ room in
      ap (λ m. to + (here.offset - from) + m + side_size side (pieces_from (here.offset + n) end rest)) ew
      ∙ ap (λ m. to + (here.offset - from) + side_width side (piece_of here) + side_size side (pieces_from (here.offset + m) end rest)) en
      ∙ room_next side from to end whole here rest now

  module _ (side : Side) (fault : Piece → List ℕ → Option AgeKind) (keeps : (bs : List ℕ) → fault Keep bs ≡ None) (bs : List ℕ) (wide : ℕ) (ew : wide ≡ side_width side (piece_of here)) (whole : Option Spot) (found : first_by side fault to (pieces_from from end (drop i cs)) (drop to bs) ≡ whole) where
    abbrev start : ℕ
    start = to + (here.offset - from)

    abbrev later : Option Spot
    later = first_by side fault (start + side_width side (piece_of here)) (pieces_from (here.offset + width (piece_of here)) end rest) (drop (start + side_width side (piece_of here)) bs)

    next_is : (o : Option AgeKind) → o ≡ fault (piece_of here) (part bs start wide) → spot_or start (side_width side (piece_of here)) o later ≡ whole
    next_is o e =
        let w = side_width side (piece_of here) in
        ap (λ (k : Option AgeKind). spot_or start w k later) (e ∙ ap (λ m. fault (piece_of here) (part bs start m)) ew)
        ∙ sym (first-at side fault keeps from to end start here rest bs refl)
        ∙ ap (λ (k : List Cut). first_by side fault to (pieces_from from end k) (drop to bs)) (sym (drop_more cs i no_cut l))
        ∙ found

    pub found_here : (kind : AgeKind) → Some kind ≡ fault (piece_of here) (part bs start wide) → Some (record { kind = kind; offset = start; width = wide }) ≡ whole
    found_here kind e =
        let spot : ℕ → Option Spot = λ m. Some (record { kind = kind; offset = start; width = m }) in
        ap spot ew ∙ next_is (Some kind) e

    pub found_later : (n : ℕ) → n ≡ width (piece_of here) → None ≡ fault (piece_of here) (part bs start wide) → first_by side fault (start + wide) (pieces_from (here.offset + n) end rest) (drop (start + wide) bs) ≡ whole
    found_later n en e =
        ap (λ m. first_by side fault (start + m) (pieces_from (here.offset + n) end rest) (drop (start + m) bs)) ew
        ∙ ap (λ m. first_by side fault (start + side_width side (piece_of here)) (pieces_from (here.offset + m) end rest) (drop (start + side_width side (piece_of here)) bs)) en
        ∙ next_is None e

  pub aged_next : (side : Side) (years : ℤ) (bs new whole : List ℕ) (wide n : ℕ) → wide ≡ side_width side (piece_of here) → n ≡ width (piece_of here) → IsInOrderFrom from end (drop i cs) → to + (here.offset - from) + wide ≤ length bs →
      new ≡ with_part bs (to + (here.offset - from)) (aged side years (piece_of here) (part bs (to + (here.offset - from)) (side_width side (piece_of here)))) →
      take to bs ++ changed_by side (aged side years) (pieces_from from end (drop i cs)) (drop to bs) ≡ whole →
      take (to + (here.offset - from) + wide) new ++ changed_by side (aged side years) (pieces_from (here.offset + n) end rest) (drop (to + (here.offset - from) + wide) new) ≡ whole
  aged_next side years bs new whole wide n ew en h fits e done =
      let p = piece_of here in
      let s = to + (here.offset - from) in
      let w = side_width side p in
      let lp : length (part bs s w) ≡ w = length-take-le w (drop s bs) (omega (arith, length-drop s bs, fits, ew)) in
      let lx : length (aged side years p (part bs s w)) ≡ w = length-aged side years p (part bs s w) (order_more from end cs i l h).1 lp in
      let now : take to bs ++ changed_by side (aged side years) (pieces_from from end (here ∷ rest)) (drop to bs) ≡ whole = ap (λ (k : List Cut). take to bs ++ changed_by side (aged side years) (pieces_from from end k) (drop to bs)) (sym (drop_more cs i no_cut l)) ∙ done in
      ap (λ m. take (s + m) new ++ changed_by side (aged side years) (pieces_from (here.offset + n) end rest) (drop (s + m) new)) ew
      ∙ ap (λ m. take (s + w) new ++ changed_by side (aged side years) (pieces_from (here.offset + m) end rest) (drop (s + w) new)) en
      ∙ changed-step side (aged side years) (change_keep (tasks.Age side years)) from to end s here rest bs new whole refl (omega (arith, fits, ew)) lx e now
