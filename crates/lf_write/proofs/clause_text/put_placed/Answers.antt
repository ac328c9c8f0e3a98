use Rattle.std.proofs.Common.{◌++◌, ℕ, List, [], Option, subst, sym}
use Rattle.std.specs.Io.KnownBytes.{Appends}
use Rattle.std.proofs.KnownBytes.{Appends-trans}
use Rattle.std.proofs.lemmas.List.{append-nil}
use Rattle.lf_write.proofs.clause_text.put_placed.Goals as goal

-- Six appends, as one.
in_turn : (o0 o1 o2 o3 o4 o5 o6 : Option (List ℕ)) (a x b y c w : List ℕ) → Appends o0 o1 a → Appends o1 o2 x → Appends o2 o3 b → Appends o3 o4 y
    → Appends o4 o5 c → Appends o5 o6 w → Appends o0 o6 (a ++ (x ++ (b ++ (y ++ (c ++ (w ++ []))))))
in_turn o0 o1 o2 o3 o4 o5 o6 a x b y c w e1 e2 e3 e4 e5 e6 =
    let f5 : Appends o4 o6 (c ++ (w ++ [])) = Appends-trans o4 o5 o6 c (w ++ []) e5 (subst (Appends o5 o6) (sym (append-nil w)) e6) in
    let f4 : Appends o3 o6 (y ++ (c ++ (w ++ []))) = Appends-trans o3 o4 o6 y (c ++ (w ++ [])) e4 f5 in
    let f3 : Appends o2 o6 (b ++ (y ++ (c ++ (w ++ [])))) = Appends-trans o2 o3 o6 b (y ++ (c ++ (w ++ []))) e3 f4 in
    let f2 : Appends o1 o6 (x ++ (b ++ (y ++ (c ++ (w ++ []))))) = Appends-trans o1 o2 o6 x (b ++ (y ++ (c ++ (w ++ [])))) e2 f3 in
    Appends-trans o0 o1 o6 a (x ++ (b ++ (y ++ (c ++ (w ++ []))))) e1 f2

pub returns : goal.returns
returns g c =
    in_turn _ _ _ _ _ _ _ _ _ _ _ _ _ c.in_ok-write_all.ensures.bytes c.in_ok-put_number.ensures c.in_ok-write_all-2.ensures.bytes
    c.in_ok-put_number-2.ensures c.in_ok-write_all-3.ensures.bytes (rw c.orient_word.ensures at c.in_ok-write_all-4.ensures.bytes)
