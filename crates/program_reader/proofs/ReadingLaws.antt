-- No words have no readings.
use Rattle.std.proofs.Common.{◌≡◌, refl, ℕ, ◌<◌, List, [], ◌∷◌, length, arith}
use Rattle.y2k_base.specs.declared.word.Word.{Word}
use Rattle.program_reader.specs.declared.reading.Reading.{Reading}
use Rattle.program_reader.specs.Readings.{AreReadings}

pub no_words : (ws : List Word) → length ws < 1 → AreReadings ws []
no_words [] h = tt
no_words (w ∷ ws) h = absurd (omega arith)

pub same_length : (ws : List Word) (xs : List Reading) → AreReadings ws xs → length xs ≡ length ws
same_length [] [] a = refl
same_length [] (x ∷ xs) a = absurd a
same_length (w ∷ ws) [] a = absurd a
same_length (w ∷ ws) (x ∷ xs) a = let rest : length xs ≡ length ws = same_length ws xs a.1 in omega arith
