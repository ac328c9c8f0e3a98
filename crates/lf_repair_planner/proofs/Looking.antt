-- One pass from left to right: the settled cells, and the next one.
use Rattle.std.proofs.Common.{◌≡◌, ℕ, ◌+◌, ◌-◌, ◌<◌, ◌≤◌, ◌⊎◌, inl, inr, List, [], ◌∷◌, suc}
use Rattle.std.proofs.Common.{zero, drop, get_or, set, map, length, sym, ap, ◌∙◌, arith, subst, get_or-set_other, get_or-set_same}
use Rattle.std.proofs.lemmas.List.{drop_more, drop-set-lt, map-set, set-get_or, get_or_default}
use Rattle.std.proofs.lemmas.List.Sums.{sum_by-cons, sum_by-drop_more}
use Rattle.lf_repair_planner.specs.declared.packed_cell.PackedCell.{PackedCell}
use Rattle.lf_repair_planner.specs.Packing.{IsPackedWithin, shape, total_width}

-- the cells below i are settled between `start` and `free`; those from i on take `rest` sites and
-- have room up to `end`
pub record Settles (start end : ℕ) (old cells : List PackedCell) (free rest i : ℕ) : Type 0 where
  pub begun : start ≤ free
  pub fit : free + rest ≤ end
  pub taken : rest ≡ total_width (drop i cells)
  pub from : (k : ℕ) (d : PackedCell) → k < i → start ≤ (get_or cells k d).at
  pub after_it : (k : ℕ) (d : PackedCell) → k < i → (get_or cells k d).at + (get_or cells k d).width ≤ free
  pub reach : (limit : ℕ) → start ≤ limit → ((k : ℕ) (d : PackedCell) → k < i → (get_or cells k d).at + (get_or cells k d).width ≤ limit) → free ≤ limit
  pub apart : (j k : ℕ) (d : PackedCell) → j < k → k < i → (get_or cells j d).at + (get_or cells j d).width ≤ (get_or cells k d).at
  pub same : map shape old ≡ map shape cells
  pub kept : IsPackedWithin start end old → cells ≡ old

tail_packed : (start end : ℕ) (x : PackedCell) (xs : List PackedCell) → IsPackedWithin start end (x ∷ xs) → IsPackedWithin start end xs
tail_packed start end x xs p = record {
  from = λ i d l. p.from (suc i) d (omega (arith, l));
  within = λ i d l. p.within (suc i) d (omega (arith, l));
  apart = λ i j d a b. p.apart (suc i) (suc j) d (omega (arith, a)) (omega (arith, b));
}

-- packed cells leave room for all from the first one on
first_room : (start end : ℕ) (x : PackedCell) (xs : List PackedCell) → IsPackedWithin start end (x ∷ xs) → x.at + total_width (x ∷ xs) ≤ end
first_room start end x [] p = let e = p.within 0 x (omega arith) in omega (arith, e)
first_room start end x (y ∷ ys) p =
    let more = first_room start end y ys (tail_packed start end x (y ∷ ys) p) in
    let next = p.apart 0 1 x (omega arith) (omega arith) in
    let sum = sum_by-cons (λ (c : PackedCell). c.width) x (y ∷ ys) in
    omega (arith, more, next, sum)

drop_packed : (start end i : ℕ) (xs : List PackedCell) → IsPackedWithin start end xs → IsPackedWithin start end (drop i xs)
drop_packed start end zero xs p = p
drop_packed start end (suc i) [] p = p
drop_packed start end (suc i) (x ∷ xs) p = drop_packed start end i xs (tail_packed start end x xs p)

-- the same from any cell on
pub rest_room : (start end i : ℕ) (d : PackedCell) (xs : List PackedCell) → i < length xs → IsPackedWithin start end xs → (get_or xs i d).at + total_width (drop i xs) ≤ end
rest_room start end i d xs l p =
    let split = drop_more xs i d l in
    let q = subst (λ ys. IsPackedWithin start end ys) split (drop_packed start end i xs p) in
    subst (λ ys. (get_or xs i d).at + total_width ys ≤ end) (sym split) (first_room start end (get_or xs i d) (drop (i + 1) xs) q)

below_or : (k i : ℕ) → k < i + 1 → (k < i) ⊎ (k ≡ i)
below_or k i h = grind arith

pub settles_more : (start end : ℕ) (old cells : List PackedCell) (free rest i : ℕ) (x y d : PackedCell) → Settles start end old cells free rest i → i < length cells
    → x ≡ get_or cells i d → y.width ≡ x.width → shape y ≡ shape x → free ≤ y.at → y.at + rest ≤ end
    → (free ≤ x.at → x.at + rest ≤ end → y ≡ x)
    → Settles start end old (set cells i y) (y.at + y.width) (rest - y.width) (i + 1)
settles_more start end old cells free rest i x y d s l is wide alike after fits stays = record {
  begun = let b = s.begun in omega (arith, b, after);
  fit = omega (arith, takes, fits);
  taken = subst (λ ys. rest - y.width ≡ total_width ys) (sym (drop-set-lt (i + 1) cells i y (omega arith))) (omega (arith, takes));
  from = from;
  after_it = after_it;
  reach = λ limit begun f. subst (λ (c : PackedCell). c.at + c.width ≤ limit) (here d) (f i d (omega arith));
  apart = apart;
  same = s.same ∙ sym back;
  kept = kept;
}
  where
    takes : rest ≡ y.width + total_width (drop (i + 1) cells)
    takes = s.taken ∙ sum_by-drop_more (λ (c : PackedCell). c.width) cells i d l
        ∙ ap (λ (w : ℕ). w + total_width (drop (i + 1) cells)) (sym (wide ∙ ap (λ (c : PackedCell). c.width) is))

    here : (e : PackedCell) → get_or (set cells i y) i e ≡ y
    here e = get_or-set_same cells i y e l

    other : (k : ℕ) (e : PackedCell) → k < i → get_or (set cells i y) k e ≡ get_or cells k e
    other k e less = get_or-set_other cells i k y e (λ same. absurd (omega (arith, less, same)))

    from : (k : ℕ) (e : PackedCell) → k < i + 1 → start ≤ (get_or (set cells i y) k e).at
    from k e h = elim (below_or k i h) [
      | inl less ↦ subst (λ (c : PackedCell). start ≤ c.at) (sym (other k e less)) (s.from k e less)
      | inr at ↦ let b = s.begun in subst (λ (n : ℕ). start ≤ (get_or (set cells i y) n e).at) (sym at)
          (subst (λ (c : PackedCell). start ≤ c.at) (sym (here e)) (omega (arith, b, after)))
    ]

    after_it : (k : ℕ) (e : PackedCell) → k < i + 1 → (get_or (set cells i y) k e).at + (get_or (set cells i y) k e).width ≤ y.at + y.width
    after_it k e h = elim (below_or k i h) [
      | inl less ↦ let b = s.after_it k e less in
          subst (λ (c : PackedCell). c.at + c.width ≤ y.at + y.width) (sym (other k e less)) (omega (arith, b, after))
      | inr at ↦ subst (λ (n : ℕ). (get_or (set cells i y) n e).at + (get_or (set cells i y) n e).width ≤ y.at + y.width) (sym at)
          (subst (λ (c : PackedCell). c.at + c.width ≤ y.at + y.width) (sym (here e)) (omega arith))
    ]

    apart : (j k : ℕ) (e : PackedCell) → j < k → k < i + 1 → (get_or (set cells i y) j e).at + (get_or (set cells i y) j e).width ≤ (get_or (set cells i y) k e).at
    apart j k e jk h = elim (below_or k i h) [
      | inl less ↦ subst (λ (c : PackedCell). c.at + c.width ≤ (get_or (set cells i y) k e).at) (sym (other j e (omega (arith, jk, less))))
          (subst (λ (c : PackedCell). (get_or cells j e).at + (get_or cells j e).width ≤ c.at) (sym (other k e less)) (s.apart j k e jk less))
      | inr at ↦ let b = s.after_it j e (omega (arith, jk, at)) in
          subst (λ (c : PackedCell). c.at + c.width ≤ (get_or (set cells i y) k e).at) (sym (other j e (omega (arith, jk, at))))
          (subst (λ (n : ℕ). (get_or cells j e).at + (get_or cells j e).width ≤ (get_or (set cells i y) n e).at) (sym at)
          (subst (λ (c : PackedCell). (get_or cells j e).at + (get_or cells j e).width ≤ c.at) (sym (here e)) (omega (arith, b, after))))
    ]

    back : map shape (set cells i y) ≡ map shape cells
    back = map-set shape cells i y ∙ ap (λ z. set (map shape cells) i z) (alike ∙ ap shape is) ∙ sym (map-set shape cells i (get_or cells i d))
        ∙ ap (map shape) (set-get_or cells i d)

    kept : IsPackedWithin start end old → set cells i y ≡ old
    kept p =
        let same = s.kept p in
        let q = subst (λ ys. IsPackedWithin start end ys) (sym same) p in
        let first = subst (λ (c : PackedCell). start ≤ c.at) (sym is) (q.from i d l) in
        let before = s.reach x.at first (λ j e h. subst (λ (c : PackedCell). (get_or cells j e).at + (get_or cells j e).width ≤ c.at)
        (get_or_default cells i e d l ∙ sym is) (q.apart j i e h l)) in
        let room_here = rest_room start end i d cells l q in
        let within = subst (λ (c : PackedCell). c.at + rest ≤ end) (sym is) (subst (λ (w : ℕ). (get_or cells i d).at + w ≤ end) (sym s.taken) room_here) in
        ap (λ (c : PackedCell). set cells i c) (stays before within ∙ is) ∙ set-get_or cells i d ∙ same
