-- The windows of a manifest over its portfolio.
use Rattle.std.specs.Prelude.{◌≡◌, ℕ, Bool, List, [], ◌∷◌, ◌++◌, Option, Some, map, is_none}
use Rattle.std.specs.List.{find, flat_map}
use Rattle.data_layout.specs.declared.portfolio.ItemRef.{ItemRef}
use Rattle.data_layout.specs.declared.portfolio.Portfolio.{Portfolio}
use Rattle.portfolio.specs.declared.manifest.Manifest.{Manifest}
use Rattle.portfolio.specs.declared.manifest.WindowGroup.{WindowGroup}
use Rattle.window_items.specs.Items.{item_meant}
use Rattle.window_items.specs.declared.window.Window.{Window}
use Rattle.window_items.specs.declared.window.Windows.{Windows}
use Rattle.window_items.specs.declared.fault.WindowFault.{WindowFault}
use Rattle.window_items.specs.declared.fault.WindowFault.TheVariants as fault

-- texts mean these items, one by one
abbrev pub AreItems : (List ℕ → Option ItemRef) → List (List ℕ) → List ItemRef → Type 0
AreItems means texts items = map means texts ≡ map Some items

abbrev pub IsWindow : (List ℕ → Option ItemRef) → WindowGroup → Window → Type 0
IsWindow means group window = (window.pivot ≡ group.pivot) × AreItems means group.items window.items

-- with the window of one more group
abbrev pub IsAdded : (List ℕ → Option ItemRef) → WindowGroup → List Window → List Window → Type 0
IsAdded means group before now = (window : Window) × IsWindow means group window × (now ≡ before ++ window ∷ [])

-- groups are these windows, one by one
abbrev pub AreWindows : (List ℕ → Option ItemRef) → List WindowGroup → List Window → Type 0
AreWindows means [] [] = Unit {0}
AreWindows means [] (w ∷ ws) = ⊥
AreWindows means (g ∷ gs) [] = ⊥
AreWindows means (g ∷ gs) (w ∷ ws) = IsWindow means g w × AreWindows means gs ws

-- the windows of a manifest
abbrev pub AreWindowsOf : Portfolio → Manifest → Windows → Type 0
AreWindowsOf p manifest windows = (windows.day ≡ manifest.pivot) × AreWindows (item_meant p) manifest.window windows.groups

abbrev pub items_of : WindowGroup → List (List ℕ)
items_of group = group.items

-- whether a text means no item
abbrev pub is_unknown : (List ℕ → Option ItemRef) → List ℕ → Bool
is_unknown means text = is_none (means text)

-- the first text without a meaning; want of memory says nothing
abbrev pub IsFirstUnknown : (List ℕ → Option ItemRef) → List (List ℕ) → WindowFault → Type 0
IsFirstUnknown means texts (fault.Unknown text) = find (is_unknown means) texts ≡ Some text
IsFirstUnknown means texts fault.Memory = Unit {0}

-- a text has no meaning
abbrev pub IsUnknownAs : List ℕ → WindowFault → Type 0
IsUnknownAs text (fault.Unknown named) = named ≡ text
IsUnknownAs text fault.Memory = Unit {0}

-- the first window item of a manifest without a meaning
abbrev pub HasWindowFault : Portfolio → Manifest → WindowFault → Type 0
HasWindowFault p manifest = IsFirstUnknown (item_meant p) (flat_map items_of manifest.window)
