-- A map with words put at one key.
use Rattle.std.proofs.Common.{◌≡◌, Bool, true, false, cond, if◌then◌else◌, Option, Some, option_map, refl, ap, ◌∙◌}

module _ {K V W : Type 0} (now : V → W) (same : K → K → Bool) where
  pushed : (b : Bool) (v : V) (o : Option V) → option_map now (cond b (Some v) o) ≡ (if b then Some (now v) else option_map now o)
  pushed true v o = refl
  pushed false v o = refl

  pub put_now : (old new : K → Option V) (k : K) (v : V) → ((q : K) → new q ≡ cond (same k q) (Some v) (old q)) → (q : K) → option_map now (new q) ≡ (if same k q then Some (now v) else option_map now (old q))
  put_now old new k v h q = ap (option_map now) (h q) ∙ pushed (same k q) v (old q)
