-- A scan of more and more places keeps the best of them.
use Rattle.std.proofs.Common.{◌≡◌, ◌⊎◌, inl, inr, subst, Option, Some, None}
use Rattle.lf_units.specs.declared.geometry.Point.{Point}
use Rattle.lf_rules.specs.Choice.{SpotPlace, PlacementQuery, IsAllowedPlace, Precedes}
use Rattle.lf_rules.specs.Scanning.{ScansPlaces}
use Rattle.lf_rules.proofs.Order.{through, not_itself}

-- A place where the cell may not be put leaves the best one unchanged.
pub skipped_place : (cell : PlacementQuery) (target : Point) (best : Option SpotPlace) (s : SpotPlace) → (IsAllowedPlace cell s → ⊥) → ScansPlaces (λ p. p ≡ s) cell target best best
skipped_place cell target best s not_so = record {
  may_go = λ h. h;
  kept = λ p h. h;
  seen = λ p e l. absurd (not_so (subst (λ (q : SpotPlace). IsAllowedPlace cell q) e l));
}

-- The first allowed place is the best so far.
pub taken_first : (cell : PlacementQuery) (target : Point) (s : SpotPlace) → IsAllowedPlace cell s → ScansPlaces (λ p. p ≡ s) cell target None (Some s)
taken_first cell target s is = record {
  may_go = λ h. is;
  kept = λ p h. absurd h;
  seen = λ p e l before. not_itself target s (subst (λ (q : SpotPlace). Precedes target q s) e before);
}

-- An allowed place of lesser key replaces the best one.
pub taken : (cell : PlacementQuery) (target : Point) (b s : SpotPlace) → IsAllowedPlace cell s → Precedes target s b → ScansPlaces (λ p. p ≡ s) cell target (Some b) (Some s)
taken cell target b s is less = record {
  may_go = λ h. is;
  kept = λ p h before. h (through target p s b before less);
  seen = λ p e l before. not_itself target s (subst (λ (q : SpotPlace). Precedes target q s) e before);
}

-- A place of no lesser key leaves the best one unchanged.
pub left : (cell : PlacementQuery) (target : Point) (b s : SpotPlace) → (Precedes target s b → ⊥) → ScansPlaces (λ p. p ≡ s) cell target (Some b) (Some b)
left cell target b s not_less = record {
  may_go = λ h. h;
  kept = λ p h. h;
  seen = λ p e l before. not_less (subst (λ (q : SpotPlace). Precedes target q b) e before);
}

-- A scan of no place.
pub idle : (Seen : SpotPlace → Type 0) (cell : PlacementQuery) (target : Point) (best : Option SpotPlace) → ((p : SpotPlace) → Seen p → ⊥) → ScansPlaces Seen cell target best best
idle Seen cell target best none = record {
  may_go = λ h. h;
  kept = λ p h. h;
  seen = λ p s l. absurd (none p s);
}

-- A scan of places, followed by a scan of others.
pub onward : (First Second Both : SpotPlace → Type 0) (cell : PlacementQuery) (target : Point) (old mid new : Option SpotPlace) →
    ((p : SpotPlace) → Both p → IsAllowedPlace cell p → First p ⊎ Second p) →
    ScansPlaces First cell target old mid → ScansPlaces Second cell target mid new → ScansPlaces Both cell target old new
onward First Second Both cell target old mid new split a b = record {
  may_go = λ h. b.may_go (a.may_go h);
  kept = λ p h. b.kept p (a.kept p h);
  seen = λ p s l. elim (split p s l) [ inl f ↦ b.kept p (a.seen p f l) | inr g ↦ b.seen p g l ];
}
