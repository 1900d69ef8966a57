-- The tree of a manifest after the conversion of its portfolio.
use Rattle.std.specs.Prelude.{◌≡◌, ℕ, pos, List, ◌≤◌, cond, codes, Some}
use Rattle.std.specs.Ordering.{nat_cmp, match_ordering}
use Rattle.std.specs.Cmp.Lexicographic.{slice_cmp}
use Rattle.toml.specs.Data.{Data, integer, Members, no_members, member, members_depth, same_key}
use Rattle.toml.specs.Parse.{parse_document}

-- the members but for that of the key
abbrev pub without : List ℕ → Members → Members
without key no_members = no_members
without key (member other d ms) = cond (same_key key other) ms (member other d (without key ms))

-- the members, in order of their keys, with this value under the key
abbrev pub with_member : List ℕ → Data → Members → Members
with_member key d no_members = member key d no_members
with_member key d (member other e ms) =
    match_ordering (slice_cmp nat_cmp key other) (member key d (member other e ms)) (member other d ms) (member other e (with_member key d ms))

-- the version is 2, and neither seeds nor windows are named
abbrev pub converted_tree : Members → Members
converted_tree tree = with_member (codes "version") (integer (pos 2)) (without (codes "window") (without (codes "seeds") tree))

-- the bytes are a document, and the others are one of its converted tree, if that nests no deeper than `toml` reads
abbrev pub IsConverted : List ℕ → List ℕ → Type 0
IsConverted text bytes =
    (tree : Members) × (parse_document text ≡ Some tree)
    × (members_depth (converted_tree tree) ≤ 80 → parse_document bytes ≡ Some (converted_tree tree))
