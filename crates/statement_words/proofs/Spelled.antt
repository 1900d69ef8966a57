-- A text that is read byte by byte, with the word that has begun.
use Rattle.std.proofs.Common.{◌≡◌, ℕ, Bool, true, false, cond, List, [], ◌∷◌, ◌++◌, map, refl, ap, sym, ◌∙◌}
use Rattle.std.specs.List.{filter, slice_split, onto_first}
use Rattle.std.proofs.lemmas.List.{append-nil}
use Rattle.y2k_base.specs.declared.word.Origin.{Origin}
use Rattle.y2k_base.specs.declared.word.Word.{Word}
use Rattle.statement_words.specs.NewWords.{is_blank, is_some_text, word_of, ended, text_words}

abbrev pub with_begun : List ℕ → List (List ℕ) → List (List ℕ)
with_begun begun [] = begun ∷ []
with_begun begun (piece ∷ pieces) = (begun ++ piece) ∷ pieces

abbrev pub words_of : Origin → List (List ℕ) → List Word
words_of origin pieces = map (word_of origin) (filter is_some_text pieces)

-- the words of what is left, in front of which a word has begun
abbrev pub words_from : Origin → List ℕ → List ℕ → List Word
words_from origin begun rest = words_of origin (with_begun begun (slice_split is_blank rest))

begun_none : (pieces : List (List ℕ)) (byte : ℕ) → with_begun [] (onto_first byte pieces) ≡ onto_first byte pieces
begun_none [] byte = refl
begun_none (piece ∷ pieces) byte = refl

begun_split : (text : List ℕ) → with_begun [] (slice_split is_blank text) ≡ slice_split is_blank text
begun_split [] = refl
begun_split (byte ∷ rest) =
    elim (is_blank byte) as (λ (b : Bool). with_begun [] (cond b ([] ∷ slice_split is_blank rest) (onto_first byte (slice_split is_blank rest))) ≡ cond b ([] ∷ slice_split is_blank rest) (onto_first byte (slice_split is_blank rest))) [
      | true ↦ refl
      | false ↦ begun_none (slice_split is_blank rest) byte
    ]

joined : (begun : List ℕ) (byte : ℕ) (piece : List ℕ) → begun ++ byte ∷ piece ≡ (begun ++ byte ∷ []) ++ piece
joined [] byte piece = refl
joined (b ∷ begun) byte piece = ap (λ (more : List ℕ). b ∷ more) (joined begun byte piece)

begun_more : (pieces : List (List ℕ)) (begun : List ℕ) (byte : ℕ) → with_begun begun (onto_first byte pieces) ≡ with_begun (begun ++ byte ∷ []) pieces
begun_more [] begun byte = refl
begun_more (piece ∷ pieces) begun byte = ap (λ (first : List ℕ). first ∷ pieces) (joined begun byte piece)

ended_first : (origin : Origin) (begun : List ℕ) (pieces : List (List ℕ)) → words_of origin (begun ∷ pieces) ≡ ended origin begun ++ words_of origin pieces
ended_first origin [] pieces = refl
ended_first origin (byte ∷ begun) pieces = refl

pub from_start : (origin : Origin) (text : List ℕ) → words_from origin [] text ≡ text_words origin text
from_start origin text = ap (words_of origin) (begun_split text)

pub at_blank : (origin : Origin) (begun : List ℕ) (byte : ℕ) (rest : List ℕ) → is_blank byte ≡ true → words_from origin begun (byte ∷ rest) ≡ ended origin begun ++ words_from origin [] rest
at_blank origin begun byte rest h =
    ap (λ (b : Bool). words_of origin (with_begun begun (cond b ([] ∷ slice_split is_blank rest) (onto_first byte (slice_split is_blank rest))))) h
    ∙ ap (λ (first : List ℕ). words_of origin (first ∷ slice_split is_blank rest)) (append-nil begun)
    ∙ ended_first origin begun (slice_split is_blank rest)
    ∙ ap (λ (pieces : List (List ℕ)). ended origin begun ++ words_of origin pieces) (sym (begun_split rest))

pub at_byte : (origin : Origin) (begun : List ℕ) (byte : ℕ) (rest : List ℕ) → is_blank byte ≡ false → words_from origin begun (byte ∷ rest) ≡ words_from origin (begun ++ byte ∷ []) rest
at_byte origin begun byte rest h =
    ap (λ (b : Bool). words_of origin (with_begun begun (cond b ([] ∷ slice_split is_blank rest) (onto_first byte (slice_split is_blank rest))))) h
    ∙ ap (words_of origin) (begun_more (slice_split is_blank rest) begun byte)

pub at_end : (origin : Origin) (begun : List ℕ) → words_from origin begun [] ≡ ended origin begun
at_end origin begun =
    ap (λ (first : List ℕ). words_of origin (first ∷ [])) (append-nil begun)
    ∙ ended_first origin begun []
    ∙ append-nil (ended origin begun)
