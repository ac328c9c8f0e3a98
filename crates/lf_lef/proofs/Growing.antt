-- A library that grows begins with its old contents.
use Rattle.std.proofs.Common.{◌≡◌, ◌≤◌, List, length, take, sym, ap, ◌∙◌, arith}
use Rattle.std.proofs.lemmas.List.{length-take, take-take}
use Rattle.std.proofs.Math.Seq.{take-length}
use Rattle.lf_lef.specs.Contents.{Contents, ExtendsLibrary}

pub same_contents : (c : Contents) → ExtendsLibrary c c
same_contents c = record { sites = take-length c.sites; macros = take-length c.macros }

shorter : {A : Type 0} (a b : List A) → take (length a) b ≡ a → length a ≤ length b
shorter a b e = omega (arith, length-take (length a) b, ap length e)

pub through : {A : Type 0} (a b c : List A) → take (length a) b ≡ a → take (length b) c ≡ b → take (length a) c ≡ a
through a b c e f = sym (take-take (length a) (length b) c (shorter a b e)) ∙ ap (λ (x : List _). take (length a) x) f ∙ e

pub grown_twice : (a b c : Contents) → ExtendsLibrary a b → ExtendsLibrary b c → ExtendsLibrary a c
grown_twice a b c e f = record { sites = through a.sites b.sites c.sites e.sites f.sites; macros = through a.macros b.macros c.macros e.macros f.macros }
