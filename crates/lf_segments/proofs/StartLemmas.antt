-- Where the segments of each row begin in the list of all segments.
use Rattle.std.proofs.Common.{refl, ◌≡◌, ◌⊎◌, inl, inr, ℕ, ◌+◌, ◌-◌, ◌<◌, ◌≤◌, List, ◌++◌, [], ◌∷◌, length, get_or, take, drop, sym, ap, subst, arith}
use Rattle.std.specs.Prelude.{All, pos}
use Rattle.std.proofs.lemmas.List.{get_or-map, get_or-drop, get_or_append_left, get_or-append-add, length-append, length-drop, length-map}
use Rattle.lf_segments.specs.declared.segment.Segment.{Segment}
use Rattle.lf_segments.specs.RowStarts.{AreRowStarts, IsRangeOf, IsStartOf, rows_of}
use Rattle.lf_segments.specs.Segments.{IsRunFrom}
use Rattle.lf_segments.proofs.RunLemmas.{run_at}

some_segment : Segment
some_segment = record { row = 0; team = 0; span = record { lo = pos 0; hi = pos 0 } }

row_get : (xs : List Segment) (k d : ℕ) (e : Segment) → k < length xs → get_or (rows_of xs) k d ≡ (get_or xs k e).row
row_get xs k d e within = get_or-map (λ (g : Segment). g.row) xs k e d within

rows_many : (xs : List Segment) → length (rows_of xs) ≡ length xs
rows_many xs = length-map xs (λ (g : Segment). g.row)

pub start_of : (xs : List Segment) (row n : ℕ) → n ≤ length xs → ((k : ℕ) (d : Segment) → k < n → (get_or xs k d).row < row) →
    ((k : ℕ) (d : Segment) → n ≤ k → k < length xs → row ≤ (get_or xs k d).row) → IsStartOf (rows_of xs) row n
start_of xs row n bound below from = record {
  within = let many = rows_many xs in omega (arith, many, bound);
  earlier = λ k d less.
      let is = row_get xs k d some_segment (omega (arith, less, bound)) in
      let low = below k some_segment less in
      omega (arith, is, low);
  rest = λ k d least within.
      let many = rows_many xs in
      let inner : k < length xs = omega (arith, many, within) in
      let is = row_get xs k d some_segment inner in
      let high = from k some_segment least inner in
      omega (arith, is, high);
}

-- One more row has its start.
pub starts_more : (rows starts : List ℕ) (row n : ℕ) → length starts ≡ row → ((r d : ℕ) → r < row → IsStartOf rows r (get_or starts r d)) →
    IsStartOf rows row n →
    (length (starts ++ (n ∷ [])) ≡ row + 1) × ((r d : ℕ) → r < row + 1 → IsStartOf rows r (get_or (starts ++ (n ∷ [])) r d))
starts_more rows starts row n many each last = (let long = length-append starts (n ∷ []) in omega (arith, long, many), one)
  where
    at_end : (d : ℕ) → get_or (starts ++ (n ∷ [])) row d ≡ n
    at_end d =
        let At : ℕ → Type 0 = λ m. get_or (starts ++ (n ∷ [])) m d ≡ n in
        let here : length starts + 0 ≡ row = omega (arith, many) in
        subst At here (get_or-append-add starts (n ∷ []) 0 d)

    one : (r d : ℕ) → r < row + 1 → IsStartOf rows r (get_or (starts ++ (n ∷ [])) r d)
    one r d less = elim order [
      | inl before ↦ subst (IsStartOf rows r) (sym (get_or_append_left starts (n ∷ []) d r (omega (arith, many, before)))) (each r d before)
      | inr here ↦
          let At : ℕ → Type 0 = λ m. IsStartOf rows m (get_or (starts ++ (n ∷ [])) m d) in
          subst At (sym here) (subst (IsStartOf rows row) (sym (at_end d)) last)
    ]
      where
        order : (r < row) ⊎ (r ≡ row)
        order = grind arith

pub starts_all : (xs : List Segment) (starts : List ℕ) (rows row : ℕ) → length starts ≡ row → rows ≤ row → All (λ g. g.row < rows) xs →
    ((r d : ℕ) → r < row → IsStartOf (rows_of xs) r (get_or starts r d)) → AreRowStarts (rows_of xs) starts
starts_all xs starts rows row many whole known each = record {
  each = λ r d less. each r d (omega (arith, many, less));
  all = λ k d within.
      let long = rows_many xs in
      let inner : k < length xs = omega (arith, long, within) in
      let is = row_get xs k d some_segment inner in
      let low = known k some_segment inner in
      omega (arith, is, low, many, whole);
}

-- The segments of a range of one row are its run.
pub range_is_run : (xs : List Segment) (row start end : ℕ) → IsRangeOf (rows_of xs) row start end →
    IsRunFrom (λ g. g.row ≡ row) xs start (take (end - start) (drop start xs))
range_is_run xs row start end range =
    run_at (λ g. g.row) xs (drop start xs) row start (end - start) start_in refl
    (λ k d less.
    let is = row_get xs k 0 d (omega (arith, less, start_in)) in
    let low = range.before k 0 less in
    omega (arith, is, low))
    (λ k d least within. let is = row_get xs k 0 d within in let low = at_least k least within in omega (arith, is, low))
    (λ k d less.
    let inner : start + k < length xs = omega (arith, less, end_in) in
    let is = row_get xs (start + k) 0 d inner in
    let here = range.inside (start + k) 0 (omega arith) (omega (arith, less)) in
    let same = ap (λ (g : Segment). g.row) (get_or-drop start xs k d) in
    omega (arith, is, here, same))
    (λ k d least within.
    let long = length-drop start xs in
    let many = rows_many xs in
    let order = range.order in
    let is = row_get xs (start + k) 0 d (omega (arith, long, within, start_in)) in
    let high = range.after_it (start + k) 0 (omega (arith, least, order)) (omega (arith, many, long, within, start_in)) in
    let same = ap (λ (g : Segment). g.row) (get_or-drop start xs k d) in
    omega (arith, is, high, same))
  where
    end_in : end ≤ length xs
    end_in = let many = rows_many xs in let within = range.within in omega (arith, many, within)

    start_in : start ≤ length xs
    start_in = let order = range.order in omega (arith, end_in, order)

    at_least : (k : ℕ) → start ≤ k → k < length xs → row ≤ get_or (rows_of xs) k 0
    at_least k least within = elim two [
      | inl before ↦ let here = range.inside k 0 least before in omega (arith, here)
      | inr past ↦ let many = rows_many xs in let high = range.after_it k 0 past (omega (arith, many, within)) in omega (arith, high)
    ]
      where
        two : (k < end) ⊎ (end ≤ k)
        two = grind arith
