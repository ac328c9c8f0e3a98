use Rattle.std.proofs.Common.{◌≡◌, ℕ, List, Bool, true, false, ap, arith}
use Rattle.std.specs.Prelude.{not, ◌&&◌}
use Rattle.std.specs.Str.{bytes_eq}
use Rattle.lf_def.specs.declared.components.Component.{Component}
use Rattle.lf_def.specs.Kinds.{is_movable}
use Rattle.lf_wire_nets.specs.Names.{is_fixed_named}
use Rattle.lf_wire_nets.proofs.FirstLemmas.{all_so_far, entries_from, none_more, none_so_far, one_so_far}
use Rattle.lf_wire_nets.proofs.names.fixed_names.Goals as goal
use Rattle.lf_wire_nets.proofs.names.fixed_names.Goals.{then-not-is_movable+in_ok-add, else-not-is_movable}

fixed_named : (x : Component) → is_movable x ≡ false → (name : List ℕ) → is_fixed_named name x ≡ bytes_eq name x.name
fixed_named x e name = ap (λ (m : Bool). not m && bytes_eq name x.name) e

never_named : (x : Component) → is_movable x ≡ true → (name : List ℕ) → is_fixed_named name x ≡ false
never_named x e name = ap (λ (m : Bool). not m && bytes_eq name x.name) e

pub loop-at-init : goal.loop-at-init
loop-at-init c = none_so_far is_fixed_named c.args.components.now c.new-names.result c.new-names.ensures.whole c.new-names.ensures.nothing

pub add-requires : goal.add-requires
add-requires c = c.loop-at.invariant.whole

pub loop-at-preserved : goal.loop-at-preserved
loop-at-preserved c =
    let components = c.args.components.now in
    let component = c.index-components-at.result in
    let here = entries_from components c.loop-at.at component c.loop-at-test.true c.index-components-at.is in
    let said = c.is_movable.ensures in
    elim c.if-not-is_movable.branch [
      | then-not-is_movable+in_ok-add w ↦
          let test = w.if-not-is_movable.true in
          let fixed : is_movable component ≡ false = cc in
          rw w.names-is (one_so_far is_fixed_named components c.loop-at.at component component.name c.loop-at.names w.add.new.self here (fixed_named component fixed)
          c.loop-at.invariant (rw w.name.ensures at (w.in_ok-add.ensures {u = tt})))
      | else-not-is_movable w ↦
          let test = w.if-not-is_movable.false in
          let movable : is_movable component ≡ true = cc in
          rw w.names-is (none_more is_fixed_named components c.loop-at.at component c.loop-at.names here (never_named component movable) c.loop-at.invariant)
    ]

pub returns : goal.returns
returns c = all_so_far is_fixed_named c.args.components.now c.loop-at.at c.loop-at.names (omega (arith, c.loop-at-test.false)) c.loop-at.invariant
