-- What is found in a list of files is the first one of its name, or of its area, as the meaning has it.
use Rattle.std.proofs.Common.{◌≡◌, ℕ, zero, suc, ◌+◌, ◌-◌, ◌==◌, Bool, true, false, true≢false, cond, List, [], ◌∷◌, ◌++◌, append_assoc, length, length-append, map, slice_index_or, Option, Some, None, refl, sym, ap, ap₂, ◌∙◌, arith}
use Rattle.std.specs.Prelude.{if◌then◌else◌, slice_get}
use Rattle.std.specs.Str.{bytes_eq}
use Rattle.data_layout.specs.declared.item.Layout.{Layout}
use Rattle.program_meaning.specs.Layout.{same_name}
use Rattle.program_meaning.specs.State as state
use Rattle.program_meaning.specs.State.{World}
use Rattle.program_meaning.specs.Step.{channel_of, channel_at}
use Rattle.program_meaning.specs.Tree.{Name}
use Rattle.layout_reading.specs.Reading.{first_area}
use Rattle.program_channels.specs.declared.channel.Channel.{Channel}
use Rattle.program_channels.specs.Channel.{read_channel, IsWhole}
use Rattle.program_channels.specs.Channels.{HasRecord}
use Rattle.program_channels.specs.Tables.{first_named, first_placed}
use Rattle.program_channels.proofs.Numbered.{same-name}

-- the file at a place of a list
abbrev pub chosen : List Channel → Option ℕ → Option state.Channel
chosen cs None = None
chosen cs (Some k) = slice_get (map read_channel cs) k

here : (front : List Channel) (c : Channel) (cs : List Channel) → slice_get (map read_channel (front ++ c ∷ cs)) (length front) ≡ Some (read_channel c)
here [] c cs = refl
here (x ∷ front) c cs = here front c cs

by-test : (front : List Channel) (c : Channel) (cs : List Channel) (found : Option ℕ) (rest : Option state.Channel) (b t : Bool) → b ≡ t
    → chosen (front ++ c ∷ cs) found ≡ rest → chosen (front ++ c ∷ cs) (if b then Some (length front) else found) ≡ cond t (Some (read_channel c)) rest
by-test front c cs found rest true true same h = here front c cs
by-test front c cs found rest false false same h = h
by-test front c cs found rest true false same h = absurd (true≢false same)
by-test front c cs found rest false true same h = absurd (true≢false (sym same))

-- one file more has been passed
longer : (front : List Channel) (c : Channel) → length (front ++ c ∷ []) ≡ length front + 1
longer front c = length-append front (c ∷ [])

named-after : (n : Name) (front cs : List Channel) → chosen (front ++ cs) (first_named (length front) cs n) ≡ channel_of n (map read_channel cs)
named-after n front [] = refl
named-after n front (c ∷ cs) =
    by-test front c cs (first_named (length front + 1) cs n) (channel_of n (map read_channel cs)) (bytes_eq c.name.now n) (same_name n c.name.now) (same-name c.name.now n)
    (ap₂ (λ (all : List Channel) (k : ℕ). chosen all (first_named k cs n)) (sym (append_assoc front (c ∷ []) cs)) (sym (longer front c)) ∙ named-after n (front ++ c ∷ []) cs)

placed-after : (a : ℕ) (front cs : List Channel) → chosen (front ++ cs) (first_placed (length front) cs a) ≡ channel_at a (map read_channel cs)
placed-after a front [] = refl
placed-after a front (c ∷ cs) =
    by-test front c cs (first_placed (length front + 1) cs a) (channel_at a (map read_channel cs)) (c.area == a) (c.area == a) refl
    (ap₂ (λ (all : List Channel) (k : ℕ). chosen all (first_placed k cs a)) (sym (append_assoc front (c ∷ []) cs)) (sym (longer front c)) ∙ placed-after a (front ++ c ∷ []) cs)

pub named : (n : Name) (cs : List Channel) → chosen cs (first_named 0 cs n) ≡ channel_of n (map read_channel cs)
named n cs = named-after n [] cs

pub placed : (a : ℕ) (cs : List Channel) → chosen cs (first_placed 0 cs a) ≡ channel_at a (map read_channel cs)
placed a cs = placed-after a [] cs

length-at : (areas : List (List ℕ)) (k : ℕ) → length (slice_index_or areas k []) ≡ slice_index_or (map length areas) k 0
length-at [] k = refl
length-at (x ∷ xs) zero = refl
length-at (x ∷ xs) (suc k) = length-at xs k

pub has-record : (l : Layout) (c : Channel) → IsWhole l.areas c → HasRecord l c
has-record l c whole = record {
  whole = whole;
  meant = λ w same.
      let number : c.area ≡ c.span.area.0 - first_area l.areas = omega (arith, whole.number) in
      let bytes : length (slice_index_or w.storage c.area []) ≡ c.span.length =
      length-at w.storage c.area ∙ ap (λ (ns : List ℕ). slice_index_or ns c.area 0) same ∙ sym whole.bytes in
      ap₂ (λ (a b : ℕ). record { area = a; start = 0; count = b }) number bytes
      ∙ ap (λ (s : ℕ). record { area = c.span.area.0 - first_area l.areas; start = s; count = c.span.length }) (sym whole.start);
}
