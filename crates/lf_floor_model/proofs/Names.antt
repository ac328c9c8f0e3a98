-- Teams by their names.
use Rattle.std.proofs.Common.{◌≡◌, ℕ, suc, ◌+◌, List, [], ◌∷◌, ◌++◌, Bool, true, false, cond, length, map, Option, Some, None, refl, ap, sym, ◌∙◌, add-zero, zero-add, arith}
use Rattle.std.specs.Prelude.{position, bytes_eq}
use Rattle.std.specs.List.{position_from}
use Rattle.std.proofs.lemmas.Iterator.Adapters.{position_from-zero}
use Rattle.lf_floorplan.specs.declared.frame.Frame.{Frame}
use Rattle.lf_floorplan.specs.declared.parts.Team.{Team}
use Rattle.lf_floorplan.specs.Fences.{ground_name}
use Rattle.lf_floor_model.specs.Teams.{team_number}

-- the number of a fence, or otherwise that of the team outside all fences
or_outside : Option ℕ → List ℕ → ℕ → Option ℕ
or_outside (Some i) name last = Some i
or_outside None name last = cond (bytes_eq ground_name name) (Some last) None

from_names : (name : List ℕ) (n : ℕ) (teams : List Team)
    → position_from (λ m. bytes_eq m name) n (map (λ (t : Team). t.name) teams ++ ground_name ∷ []) ≡ or_outside (position_from (λ (t : Team). bytes_eq t.name name) n teams) name (n + length teams)
unfolding or_outside
from_names name n [] = ap (λ (k : ℕ). cond (bytes_eq ground_name name) (Some k) None) (sym (add-zero n))
from_names name n (t ∷ ts) = go (bytes_eq t.name name) (from_names name (n + 1) ts) where
  rest : n + 1 + length ts ≡ n + suc (length ts)
  rest = omega arith

  go : (b : Bool)
      → position_from (λ m. bytes_eq m name) (n + 1) (map (λ (t : Team). t.name) ts ++ ground_name ∷ []) ≡ or_outside (position_from (λ (t : Team). bytes_eq t.name name) (n + 1) ts) name (n + 1 + length ts)
      → cond b (Some n) (position_from (λ m. bytes_eq m name) (n + 1) (map (λ (t : Team). t.name) ts ++ ground_name ∷ []))
      ≡ or_outside (cond b (Some n) (position_from (λ (t : Team). bytes_eq t.name name) (n + 1) ts)) name (n + suc (length ts))
  go true later = refl
  go false later = later ∙ ap (λ (k : ℕ). or_outside (position_from (λ (t : Team). bytes_eq t.name name) (n + 1) ts) name k) rest

number_is : (f : Frame) (name : List ℕ) → team_number f name ≡ or_outside (position (λ (t : Team). bytes_eq t.name name) f.teams) name (length f.teams)
number_is f name =
    position_from-zero (λ m. bytes_eq m name) (map (λ (t : Team). t.name) f.teams ++ ground_name ∷ [])
    ∙ from_names name 0 f.teams
    ∙ ap (λ (o : Option ℕ). or_outside o name (0 + length f.teams)) (sym (position_from-zero (λ (t : Team). bytes_eq t.name name) f.teams))
    ∙ ap (λ (k : ℕ). or_outside (position (λ (t : Team). bytes_eq t.name name) f.teams) name k) (zero-add (length f.teams))

pub fence_is : (f : Frame) (name : List ℕ) (i : ℕ) → Some i ≡ position (λ (t : Team). bytes_eq t.name name) f.teams → Some i ≡ team_number f name
unfolding or_outside
fence_is f name i found = sym (number_is f name ∙ ap (λ (o : Option ℕ). or_outside o name (length f.teams)) (sym found))

pub outside_is : (f : Frame) (name : List ℕ) → None ≡ position (λ (t : Team). bytes_eq t.name name) f.teams → bytes_eq ground_name name ≡ true
    → Some (length f.teams) ≡ team_number f name
unfolding or_outside
outside_is f name none same =
    sym (number_is f name ∙ ap (λ (o : Option ℕ). or_outside o name (length f.teams)) (sym none) ∙ ap (λ (b : Bool). cond b (Some (length f.teams)) None) same)

pub unknown_is : (f : Frame) (name : List ℕ) → None ≡ position (λ (t : Team). bytes_eq t.name name) f.teams → bytes_eq ground_name name ≡ false
    → None ≡ team_number f name
unfolding or_outside
unknown_is f name none other =
    sym (number_is f name ∙ ap (λ (o : Option ℕ). or_outside o name (length f.teams)) (sym none) ∙ ap (λ (b : Bool). cond b (Some (length f.teams)) None) other)
