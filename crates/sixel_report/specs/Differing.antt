-- The lines of `differ`, and its status.
use Rattle.std.specs.Prelude.{◌==◌, ◌+◌, ◌&&◌, ◌++◌, ℕ, Bool, true, false, List, [], ◌∷◌, Some, None}
use Rattle.std.specs.Prelude.{flat_map, map, if◌then◌else◌}
use Rattle.sixel_named_terminals.specs.declared.named.Named.{Named}
use Rattle.sixel_named_terminals.specs.declared.named.Named.TheVariants.{XTerm}
use Rattle.sixel_differ.specs.declared.comparison.Comparison.{Comparison}
use Rattle.sixel_differ.specs.declared.comparison.Standing.{Standing}
use Rattle.sixel_differ.specs.declared.comparison.Standing.TheVariants.{First, Differs, Like, Unmodelled}
use Rattle.sixel_differ.specs.Comparisons.{rank, standing_in}
use Rattle.sixel_report.specs.declared.differences.Group.{Group}
use Rattle.sixel_report.specs.declared.differences.Members.{Members}
use Rattle.sixel_report.specs.declared.item.Item.{Item}
use Rattle.sixel_report.specs.declared.item.Item.TheVariants as item
use Rattle.sixel_report.specs.declared.task.Status.{Status}
use Rattle.sixel_report.specs.declared.task.Status.TheVariants.{Done, Differing}
use Rattle.sixel_report.specs.Texts.{Text, all_named, items_text}

-- whether a terminal that stands so is in the group that this one leads, behind it
abbrev pub is_like : Named → Standing → Bool
is_like leader (Like other) = rank other == rank leader
is_like leader standing = false

-- the terminals in the group that this one leads, but for itself
abbrev pub others_of : Comparison → Named → Members
others_of c leader = record {
  xterm = is_like leader c.xterm;
  mlterm = is_like leader c.mlterm;
  foot = is_like leader c.foot;
  konsole = is_like leader c.konsole;
}

-- the group of a terminal that stands so, if it leads one
abbrev pub groups_led : Comparison → Named → Standing → List Group
groups_led c named First = record { leader = named; others = others_of c named; pixel = None } ∷ []
groups_led c named (Differs x y) = record { leader = named; others = others_of c named; pixel = Some (x, y) } ∷ []
groups_led c named standing = []

-- the groups, in the order of their first members
abbrev pub group_items : Comparison → List Item
group_items c = flat_map (λ named. map item.Group (groups_led c named (standing_in c named))) all_named

-- a terminal that stands so, if its model ends
abbrev pub ends_led : Named → Standing → List Item
ends_led named (Unmodelled place) = item.Unmodelled named place ∷ []
ends_led named standing = []

-- the terminals whose model ends, in their order
abbrev pub end_items : Comparison → List Item
end_items c = flat_map (λ named. ends_led named (standing_in c named)) all_named

abbrev pub is_first : Standing → Bool
is_first First = true
is_first standing = false

-- whether all four models say what is shown, and the screens are equal
abbrev pub is_one_group : Comparison → Bool
is_one_group c =
    is_first c.xterm && (is_like XTerm c.mlterm && (is_like XTerm c.foot && is_like XTerm c.konsole))

-- the items of a comparison of screens with this width and height
abbrev pub differ_items : ℕ → ℕ → Comparison → List Item
differ_items width height c =
    if is_one_group c then item.Same width height ∷ [] else group_items c ++ end_items c

abbrev pub differ_text : ℕ → ℕ → Comparison → Text
differ_text width height c = items_text (differ_items width height c)

abbrev pub differ_status : Comparison → Status
differ_status c = if is_one_group c then Done else Differing
