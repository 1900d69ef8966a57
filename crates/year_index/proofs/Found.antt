-- What a search by binary search finds among the years.
use Rattle.std.proofs.Common.{◌≡◌, ℕ, ◌+◌, ◌-◌, ◌<◌, ◌≤◌, Bool, true, false, List, length, take, drop, Some, None, get_or, sym, ap, ◌∙◌, subst, arith}
use Rattle.std.proofs.lemmas.List.{get_or_default}
use Rattle.y2k_base.specs.declared.place.Span.{Span}
use Rattle.window_modes.specs.declared.modes.YearMode.{YearMode}
use Rattle.year_index.specs.Years.{ends_by, begins_before, meets, years_in, first_where, ArePlaced}
use Rattle.year_index.proofs.Order.{Precedes, found_at, none_at, ended_has_begun, meets_is}
use Rattle.year_index.proofs.Search.{IsPoint, part_is, fewer}

module _ (list ms : List YearMode) (same : list ≡ ms) (placed : ArePlaced ms) (area start offset count : ℕ) (holds : YearMode → Bool) (not_ended : (m : YearMode) → ends_by area start m ≡ true → holds m ≡ false)
    (not_later : (m n : YearMode) → ends_by area start m ≡ false → Precedes m n → holds n ≡ false) (at : offset ≡ start) (point : IsPoint (ends_by area offset) ms count) where
  here : IsPoint (ends_by area start) ms count
  here = subst (λ (o : ℕ). IsPoint (ends_by area o) ms count) at point

  pub found : (d : YearMode) → count < length list → holds (get_or list count d) ≡ true → Some (get_or list count d) ≡ first_where holds ms
  found d = subst (λ (l : List YearMode). count < length l → holds (get_or l count d) ≡ true → Some (get_or l count d) ≡ first_where holds ms) (sym same)
      (λ l h. sym (found_at ms placed.ordered area start holds not_ended not_later count here d l h))

  pub other : (d : YearMode) → count < length list → holds (get_or list count d) ≡ false → None ≡ first_where holds ms
  other d = subst (λ (l : List YearMode). count < length l → holds (get_or l count d) ≡ false → None ≡ first_where holds ms) (sym same)
      (λ l h. sym (none_at ms placed.ordered area start holds not_ended not_later count here (λ e m. ap holds (get_or_default ms count e d m) ∙ h)))

  pub past : length list ≤ count → None ≡ first_where holds ms
  past = subst (λ (l : List YearMode). length l ≤ count → None ≡ first_where holds ms) (sym same)
      (λ l. sym (none_at ms placed.ordered area start holds not_ended not_later count here (λ e m. absurd (omega (arith, l, m)))))

module _ (ms : List YearMode) (span : Span) (from to first last : ℕ) (is_start : from ≡ span.offset) (is_end : to ≡ span.offset + span.length) (ended : IsPoint (ends_by span.area.0 from) ms first)
    (begun : IsPoint (begins_before span.area.0 to) ms last) where
  ended_here : IsPoint (ends_by span.area.0 span.offset) ms first
  ended_here = subst (λ (o : ℕ). IsPoint (ends_by span.area.0 o) ms first) is_start ended

  begun_here : IsPoint (begins_before span.area.0 (span.offset + span.length)) ms last
  begun_here = subst (λ (o : ℕ). IsPoint (begins_before span.area.0 o) ms last) is_end begun

  pub in_order : first ≤ length ms → first ≤ last
  in_order l = fewer (ends_by span.area.0 span.offset) (begins_before span.area.0 (span.offset + span.length)) ms first last
      (ended_has_begun span.area.0 span.offset (span.offset + span.length) (omega arith)) ended_here begun_here l

  pub in_span : first ≤ length ms → last ≤ length ms → take (last - first) (drop first ms) ≡ years_in ms span
  in_span l m = part_is (ends_by span.area.0 span.offset) (begins_before span.area.0 (span.offset + span.length)) (meets span) ms first last (meets_is span) ended_here begun_here m (in_order l)
