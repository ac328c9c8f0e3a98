-- The clauses of components that are listed by rising positions are in order in the text, without
-- overlap.
use Rattle.std.proofs.Common.{◌≡◌, ℕ, suc, zero, ◌+◌, ◌<◌, ◌≤◌, List, [], ◌∷◌, Option, Some, None, subst, sym, arith}
use Rattle.std.specs.Prelude.{filter_map, slice_get}
use Rattle.std.specs.List.{cons_option}
use Rattle.lf_lex.specs.Splices.{Splice, Rising}
use Rattle.lf_floorplan.specs.declared.place.Place.{Place}
use Rattle.lf_def.specs.declared.components.Component.{Component}
use Rattle.lf_def.specs.declared.components.PlacementClause.{PlacementClause}
use Rattle.lf_def.specs.Laws.{ClauseWithin}
use Rattle.lf_def.specs.Laws as def
use Rattle.lf_write.specs.Export.{PositionsRise, clause_splice, splice_of}
use Rattle.lf_write.proofs.Idle.{Found}

-- The component lies within these offsets.
pub record IsInPlace (at len : ℕ) (c : Component) : Type 0 where
  pub from : at ≤ c.semicolon
  pub clause : ClauseWithin at c.semicolon c.placement
  pub below : c.semicolon ≤ len

clause_on : (from more to : ℕ) (p : Option PlacementClause) → more ≤ from → ClauseWithin from to p → ClauseWithin more to p
clause_on from more to None le h = tt
clause_on from more to (Some p) le h = (omega (arith, le, h.0), h.1, h.2)

is_placed_on : (from more len : ℕ) (c : Component) → more ≤ from → IsInPlace from len c → IsInPlace more len c
is_placed_on from more len c le h =
    record { from = omega (arith, le, h.from); clause = clause_on from more c.semicolon c.placement le h.clause; below = h.below }

pub ends_within : (from len : ℕ) (cs : List Component) → def.AreInTextOrder from len cs → from ≤ len
ends_within from len [] h = h
ends_within from len (c ∷ cs) h = omega (arith, h.0, ends_within (c.semicolon + 1) len cs h.2)

some_same : (c d : Component) → ◌≡◌ {A = Option Component} (Some c) (Some d) → c ≡ d
some_same c d e = cc

-- Each of the components.
pub each_is_placed : (from len : ℕ) (cs : List Component) → def.AreInTextOrder from len cs → (n : ℕ) (d : Component) → slice_get cs n ≡ Some d → IsInPlace from len d
each_is_placed from len [] h n d e = absurd cc
each_is_placed from len (c ∷ cs) h zero d e =
    subst (IsInPlace from len) (some_same c d e)
    (record { from = h.0; clause = h.1; below = omega (arith, ends_within (c.semicolon + 1) len cs h.2) })
each_is_placed from len (c ∷ cs) h (suc n) d e =
    is_placed_on (c.semicolon + 1) from len d (omega (arith, h.0)) (each_is_placed (c.semicolon + 1) len cs h.2 n d e)

-- A later component lies after an earlier one.
is_after : (from len : ℕ) (cs : List Component) → def.AreInTextOrder from len cs → (n m : ℕ) (c d : Component) → n < m → slice_get cs n ≡ Some c
    → slice_get cs m ≡ Some d → IsInPlace (c.semicolon + 1) len d
is_after from len [] h n m c d lt e f = absurd cc
is_after from len (x ∷ xs) h n zero c d lt e f = absurd (omega (arith, lt))
is_after from len (x ∷ xs) h zero (suc m) c d lt e f =
    subst (λ (y : Component). IsInPlace (y.semicolon + 1) len d) (some_same x c e) (each_is_placed (x.semicolon + 1) len xs h.2 m d f)
is_after from len (x ∷ xs) h (suc n) (suc m) c d lt e f = is_after (x.semicolon + 1) len xs h.2 n m c d (omega (arith, lt)) e f

-- The components from a position on lie after an offset.
abbrev AllAfter : List Component → ℕ → ℕ → ℕ → Type 0
AllAfter cs len position from = (n : ℕ) (d : Component) → position ≤ n → slice_get cs n ≡ Some d → IsInPlace from len d

-- Holds for `None`, or the clause of the component at this position.
abbrev pub IsOf : List Component → ℕ × Option Place → Option Splice → Type 0
IsOf cs g None = Unit {0}
IsOf cs g (Some s) = (c : Component) × (slice_get cs g.0 ≡ Some c) × (s ≡ splice_of c g.1)

pub record Within (from to : ℕ) (s : Splice) : Type 0 where
  pub start : from ≤ s.start
  pub order : s.start ≤ s.stop
  pub stop : s.stop ≤ to

splice_within : (from semicolon : ℕ) (p : Option PlacementClause) (given : Option Place) → from ≤ semicolon → ClauseWithin from semicolon p
    → Within from semicolon (clause_splice p semicolon given)
splice_within from semicolon None given le h = record { start = le; order = omega arith; stop = omega arith }
splice_within from semicolon (Some p) given le h = record { start = h.0; order = omega (arith, h.1); stop = h.2 }

first : (len : ℕ) (cs : List Component) → def.AreInTextOrder 0 len cs → (g : ℕ × Option Place) (o : Option Splice) → IsOf cs g o → (position from : ℕ)
    → position ≤ g.0 → from ≤ len → AllAfter cs len position from → (ss : List Splice)
    → ((more : ℕ) → more ≤ len → AllAfter cs len (g.0 + 1) more → Rising more len ss) → Rising from len (cons_option o ss)
first len cs h g None is position from le below after_it ss next = next from below (λ n d le' e. after_it n d (omega (arith, le, le')) e)
first len cs h g (Some s) is position from le below after_it ss next =
    let c = is.0 in
    let is_in_place = after_it g.0 c le is.1 in
    let within : Within from c.semicolon s =
    subst (Within from c.semicolon) (sym is.2) (splice_within from c.semicolon c.placement g.1 is_in_place.from is_in_place.clause) in (
      within.start,
      within.order,
      next s.stop (omega (arith, within.stop, is_in_place.below))
          (λ n d le' e.
          is_placed_on (c.semicolon + 1) s.stop len d (omega (arith, within.stop)) (is_after 0 len cs h g.0 n c d (omega (arith, le')) is.1 e)),
    )

from_position : (len : ℕ) (cs : List Component) → def.AreInTextOrder 0 len cs → (f : Found) → ((g : ℕ × Option Place) → IsOf cs g (f g))
    → (places : List (ℕ × Option Place)) (position to from : ℕ) → PositionsRise position to places → from ≤ len → AllAfter cs len position from
    → Rising from len (filter_map f places)
from_position len cs h f is [] position to from rise below after_it = below
from_position len cs h f is (g ∷ places) position to from rise below after_it =
    first len cs h g (f g) (is g) position from rise.0 below after_it (filter_map f places)
    (λ more le all. from_position len cs h f is places (g.0 + 1) to more rise.2 le all)

pub clauses_rise : (len : ℕ) (cs : List Component) (f : Found) (places : List (ℕ × Option Place)) (to : ℕ) → def.AreInTextOrder 0 len cs
    → ((g : ℕ × Option Place) → IsOf cs g (f g)) → PositionsRise 0 to places → Rising 0 len (filter_map f places)
clauses_rise len cs f places to h is rise =
    from_position len cs h f is places 0 to 0 rise (omega arith) (λ n d le e. each_is_placed 0 len cs h n d e)
