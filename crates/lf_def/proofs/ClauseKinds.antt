-- The kind of a component, by its placement clause.
use Rattle.std.proofs.Common.{◌≡◌, Bool, Option, Some, None, ap}
use Rattle.lf_def.specs.declared.components.PlacementClause.{PlacementClause}
use Rattle.lf_def.specs.declared.components.PlacementKind.{PlacementKind}
use Rattle.lf_def.specs.Kinds.{has_kind}
use Rattle.lf_def.specs.Stored.{kind_named}

pub says_by : (is_kind : PlacementKind → Bool) (clause : Option PlacementClause) (kind : PlacementKind) → Some kind ≡ kind_named clause → has_kind is_kind clause ≡ is_kind kind
says_by is_kind None kind e = absurd cc
says_by is_kind (Some clause) kind e = ap is_kind cc
