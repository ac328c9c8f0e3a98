-- Changes of components are in order in the text, without overlap.
use Rattle.std.proofs.Common.{◌≡◌, ℕ, ◌+◌, ◌≤◌, Bool, true, false, List, [], ◌∷◌, length, Option, Some, None, refl, arith}
use Rattle.std.specs.List.{cons_option}
use Rattle.lf_lex.specs.Splices.{Splice, Rising}
use Rattle.lf_floorplan.specs.declared.place.Place.{Place}
use Rattle.lf_def.specs.declared.components.Component.{Component}
use Rattle.lf_def.specs.declared.components.PlacementClause.{PlacementClause}
use Rattle.lf_def.specs.Laws.{ClauseWithin}
use Rattle.lf_def.specs.Laws as def
use Rattle.lf_write.specs.Export.{PositionsRise, is_placed_at, clause_splice, change, changes, given_to}
use Rattle.lf_write.proofs.Positions.{Given, change_of, changes_from, changes_are}

-- From an earlier offset on.
pub earlier : (from more len : ℕ) (ss : List Splice) → more ≤ from → Rising from len ss → Rising more len ss
earlier from more len [] le h = omega (arith, le, h)
earlier from more len (s ∷ ss) le h = (omega (arith, le, h.0), h.1, h.2)

clause_within : (from semicolon len : ℕ) (p : Option PlacementClause) (given : Option Place) (ss : List Splice) → from ≤ semicolon → ClauseWithin from semicolon p
    → Rising (semicolon + 1) len ss → Rising from len (clause_splice p semicolon given ∷ ss)
clause_within from semicolon len None given ss le k h = (le, omega arith, earlier (semicolon + 1) semicolon len ss (omega arith) h)
clause_within from semicolon len (Some p) given ss le k h =
    (k.0, omega (arith, k.1), earlier (semicolon + 1) p.stop len ss (omega (arith, k.2)) h)

by_placed : (from len : ℕ) (c : Component) (given : Option Place) (ss : List Splice) → from ≤ c.semicolon → ClauseWithin from c.semicolon c.placement
    → Rising (c.semicolon + 1) len ss → (test : Bool) → is_placed_at c given ≡ test → Rising from len (cons_option (change c given) ss)
by_placed from len c given ss le k h true e = rw e (earlier (c.semicolon + 1) from len ss (omega (arith, le)) h)
by_placed from len c given ss le k h false e = rw e (clause_within from c.semicolon len c.placement given ss le k h)

by_given : (from len : ℕ) (c : Component) (o : Option (Option Place)) (ss : List Splice) → from ≤ c.semicolon → ClauseWithin from c.semicolon c.placement
    → Rising (c.semicolon + 1) len ss → Rising from len (cons_option (change_of o c) ss)
by_given from len c None ss le k h = earlier (c.semicolon + 1) from len ss (omega (arith, le)) h
by_given from len c (Some given) ss le k h = by_placed from len c given ss le k h (is_placed_at c given) refl

changes_rise : (n from len : ℕ) (places : Given) (cs : List Component) → def.AreInTextOrder from len cs → Rising from len (changes_from n places cs)
unfolding changes_from
changes_rise n from len places [] h = h
changes_rise n from len places (c ∷ cs) h =
    by_given from len c (given_to places n) (changes_from (n + 1) places cs) h.0 h.1 (changes_rise (n + 1) (c.semicolon + 1) len places cs h.2)

pub rising : (len : ℕ) (places : Given) (cs : List Component) → PositionsRise 0 (length cs) places → def.AreInTextOrder 0 len cs → Rising 0 len (changes cs places)
rising len places cs r h = rw (changes_are places cs r) (changes_rise 0 0 len places cs h)
