-- The members of a team on two frames that are alike.
use Rattle.std.proofs.Common.{◌≡◌, ℕ, ◌+◌, List, [], ◌∷◌, Option, Some, None, refl, ap, ◌∙◌}
use Rattle.std.specs.Prelude.{filter, not, ◌==◌}
use Rattle.std.specs.List.{AllZip}
use Rattle.lf_units.specs.declared.geometry.Point.{Point}
use Rattle.lf_units.specs.declared.geometry.Rect.{Rect}
use Rattle.lf_floorplan.specs.declared.frame.Frame.{Frame}
use Rattle.lf_floorplan.specs.declared.macros.Macro.{Macro}
use Rattle.lf_floorplan.specs.Boxes.{IsSized, macro_of, size_of}
use Rattle.lf_floorplan.specs.Sizes.{turned, box_at}
use Rattle.lf_units.specs.declared.placed.Placed.{Placed}
use Rattle.lf_rules.specs.Choice.{SpotPlace, PlacementQuery}
use Rattle.lf_rules.specs.Team.{Member, box_in, with_box, boxes_from, boxes_beside, query_from}
use Rattle.lf_laws_slices.specs.Alike.{AreFramesAlike}
use Rattle.lf_laws_slices.specs.Laws.{query_on}
use Rattle.lf_laws_slices.proofs.Rules.{size_same}

-- two members have the same place and the same macro, which has a whole size
pub record AreMembersAlike (f g : Frame) (m n : Member) : Type 0 where
  pub place : m.place ≡ n.place
  pub same_macro : macro_of f m.mac ≡ macro_of g n.mac
  pub sized : IsSized f (macro_of f m.mac)

module _ (f g : Frame) (a : AreFramesAlike f g) where
  box_same : (mac other : ℕ) (p : SpotPlace) → macro_of f mac ≡ macro_of g other → box_in f mac p ≡ box_in g other p
  box_same mac other p same =
      ap (λ (s : Point). box_at (turned s p.orient) p.x p.y) (size_same f g a (macro_of f mac))
      ∙ ap (λ (m : Macro). box_at (turned (size_of g m) p.orient) p.x p.y) same

  with_box_same : (own mac other : ℕ) (place : Option SpotPlace) (rest : List Placed) → macro_of f mac ≡ macro_of g other
      → with_box f own mac place rest ≡ with_box g own other place rest
  with_box_same own mac other None rest same = refl
  with_box_same own mac other (Some p) rest same = ap (λ (box : Rect). record { own = own; rect = box } ∷ rest) (box_same mac other p same)

  boxes_same : (own : ℕ) (ms ns : List Member) → AllZip (AreMembersAlike f g) ms ns → boxes_from f own ms ≡ boxes_from g own ns
  boxes_same own [] [] z = refl
  boxes_same own [] (n ∷ ns) z = absurd z
  boxes_same own (m ∷ ms) [] z = absurd z
  boxes_same own (m ∷ ms) (n ∷ ns) z =
      ap (λ (rest : List Placed). with_box f own m.mac m.place rest) (boxes_same (own + 1) ms ns z.1)
      ∙ ap (λ (place : Option SpotPlace). with_box f own m.mac place (boxes_from g (own + 1) ns)) z.0.place
      ∙ with_box_same own m.mac n.mac n.place (boxes_from g (own + 1) ns) z.0.same_macro

  pub beside_same : (ms ns : List Member) (own : ℕ) → AllZip (AreMembersAlike f g) ms ns → boxes_beside f ms own ≡ boxes_beside g ns own
  beside_same ms ns own z = ap (λ (boxes : List Placed). filter (λ box. not (box.own == own)) boxes) (boxes_same 0 ms ns z)

-- the search for a place of a cell that is removed from its own place
abbrev unplaced_with : Frame → ℕ → ℕ → Macro → List Placed → PlacementQuery
unplaced_with f team padding mac others = record { frame = f; team = team; padding = padding; mac = mac; others = others }

-- the searches for a place of a cell on both frames are the same
pub query_same : (f g : Frame) → AreFramesAlike f g → (team padding : ℕ) (ms ns : List Member) (own mac other : ℕ)
    → AllZip (AreMembersAlike f g) ms ns → macro_of f mac ≡ macro_of g other
    → query_on g (query_from f team padding ms own mac) ≡ query_from g team padding ns own other
query_same f g a team padding ms ns own mac other z same =
    ap (λ (m : Macro). unplaced_with g team padding m (boxes_beside f ms own)) same
    ∙ ap (λ (boxes : List Placed). unplaced_with g team padding (macro_of g other) boxes) (beside_same f g a ms ns own z)
