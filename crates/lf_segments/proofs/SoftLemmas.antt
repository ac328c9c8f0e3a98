-- Soft spans of strips; and lists of spans that are concatenated in one list.
use Rattle.std.proofs.Common.{◌≡◌, ◌⊎◌, inl, inr, ℕ, zero, suc, ℤ, ◌+◌, ◌-◌, ◌<◌, ◌≤◌, List, [], ◌∷◌, ◌++◌, length, get_or, take, drop, map}
use Rattle.std.proofs.Common.{refl, sym, ap, subst, ◌∙◌, arith}
use Rattle.std.specs.Prelude.{All, Any, Contains, IsPermutation}
use Rattle.std.proofs.Math.ListN.{get_or-map}
use Rattle.std.proofs.Math.Seq.{drop-append_seam, get_or-append_seam, take-length}
use Rattle.std.proofs.lemmas.List.{get_or_default, get_or_past, get_or-take, get_or_append_left, length-append, length-drop, length-map, length-take}
use Rattle.std.proofs.lemmas.List.{drop-append-le, take-append-le}
use Rattle.std.proofs.lemmas.List.Elements.{All-contains, All-tail}
use Rattle.std.proofs.lemmas.List.Sorted.{Contains-permutation, IsPermutation-sym}
use Rattle.std.proofs.lemmas.Option.{slice_get_within, get_or_from_slice_get}
use Rattle.lf_units.specs.declared.geometry.Rect.{Rect}
use Rattle.lf_units.specs.Area.{Covers, SharesPoint}
use Rattle.lf_units.proofs.Any.{any_first, any_map, any_mapped, any_one, has_item}
use Rattle.lf_units.specs.declared.span.Span.{Span}
use Rattle.lf_units.specs.Spans.{HoldsNumber, IsJoin, IsMeet, LiesIn}
use Rattle.lf_units.specs.declared.placed.Placed.{Placed}
use Rattle.lf_units.specs.Near.{AreAllOverlapping}
use Rattle.lf_units.proofs.Nears.{each_near, only_near}
use Rattle.lf_floorplan.specs.declared.frame.Frame.{Frame}
use Rattle.lf_segments.specs.declared.segment.Segment.{Segment}
use Rattle.lf_segments.specs.declared.strip.Strip.{Strip}
use Rattle.lf_segments.specs.Boxes.{x_extent, placed_with_number}
use Rattle.lf_segments.specs.Indexes.{AreSoft}
use Rattle.lf_segments.specs.Soft.{AreOverlappedSpans, AreSoftIn, AreSoftOver, IsSoftAt, lists_from, soft_boxes}
use Rattle.lf_segments.specs.Strips.{strip_of}
use Rattle.lf_segments.proofs.TreeLemmas.{map_there, of_map}

-- ---- concatenated lists

pub length-pieces : (spans : List Span) (starts : List ℕ) → length (lists_from spans starts) ≡ length starts
length-pieces spans [] = refl
length-pieces spans (a ∷ starts) = ap (λ (n : ℕ). suc n) (length-pieces spans starts)

-- The list with this number lies between its start and the next one.
pub piece_at : (spans : List Span) (starts : List ℕ) (k d : ℕ) → k < length starts →
    get_or (lists_from spans starts) k [] ≡ take (get_or starts (k + 1) (length spans) - get_or starts k d) (drop (get_or starts k d) spans)
piece_at spans [] k d within = absurd (omega (arith, within))
piece_at spans (a ∷ starts) zero d within = refl
piece_at spans (a ∷ starts) (suc k) d within =
    let same : suc (k + 1) ≡ suc k + 1 = omega arith in
    piece_at spans starts k d (omega (arith, within))
    ∙ ap (λ (n : ℕ). take (get_or (a ∷ starts) n (length spans) - get_or starts k d) (drop (get_or starts k d) spans)) same

pub piece_past : (spans : List Span) (starts : List ℕ) (k : ℕ) → length starts ≤ k → get_or (lists_from spans starts) k [] ≡ []
piece_past spans starts k past = let long = length-pieces spans starts in get_or_past (lists_from spans starts) k [] (omega (arith, long, past))

pub piece_between : (spans : List Span) (starts : List ℕ) (k start end : ℕ) → k < length starts → start ≡ get_or starts k start →
    end ≡ get_or starts (k + 1) (length spans) → take (end - start) (drop start spans) ≡ get_or (lists_from spans starts) k []
piece_between spans starts k start end within first last =
    ap (λ (n : ℕ). take (n - start) (drop start spans)) last
    ∙ ap (λ (n : ℕ). take (get_or starts (k + 1) (length spans) - n) (drop n spans)) first ∙ sym (piece_at spans starts k start within)

-- If there are no spans, each list is empty.
pub no_pieces : (spans : List Span) (starts : List ℕ) (k : ℕ) → length spans ≡ 0 → get_or (lists_from spans starts) k [] ≡ []
no_pieces (s ∷ spans) starts k none = absurd (omega (arith, none))
no_pieces [] starts k none = bare starts k
  where
    none_of : (n a : ℕ) → ◌≡◌ {A = List Span} (take n (drop a [])) []
    none_of zero zero = refl
    none_of zero (suc a) = refl
    none_of (suc n) zero = refl
    none_of (suc n) (suc a) = refl

    bare : (firsts : List ℕ) (i : ℕ) → get_or (lists_from [] firsts) i [] ≡ []
    bare [] zero = refl
    bare [] (suc i) = refl
    bare (a ∷ firsts) zero = none_of (get_or firsts 0 0 - a) a
    bare (a ∷ firsts) (suc i) = bare firsts i

-- One more list at the end.
pub pieces_more : (spans more : List Span) (starts : List ℕ) → All (λ n. n ≤ length spans) starts →
    lists_from (spans ++ more) (starts ++ length spans ∷ []) ≡ lists_from spans starts ++ more ∷ []
pieces_more spans more [] within = ap (λ (xs : List Span). xs ∷ []) last
  where
    long : length (spans ++ more) - length spans ≡ length more
    long = let both = length-append spans more in omega (arith, both)

    last : take (length (spans ++ more) - length spans) (drop (length spans) (spans ++ more)) ≡ more
    last =
        ap (λ (n : ℕ). take n (drop (length spans) (spans ++ more))) long
        ∙ ap (λ (xs : List Span). take (length more) xs) (drop-append_seam spans more) ∙ take-length more
pieces_more spans more (a ∷ rest) within =
    ap (λ (xs : List Span). xs ∷ lists_from (spans ++ more) (rest ++ length spans ∷ [])) head
    ∙ ap (λ (ps : List (List Span)). take (end - a) (drop a spans) ∷ ps) (pieces_more spans more rest (All-tail (λ n. n ≤ length spans) a rest within))
  where
    end : ℕ
    end = get_or rest 0 (length spans)

    same_end : (r : List ℕ) → get_or (r ++ length spans ∷ []) 0 (length (spans ++ more)) ≡ get_or r 0 (length spans)
    same_end [] = refl
    same_end (b ∷ r) = refl

    low_end : (r : List ℕ) → All (λ n. n ≤ length spans) r → get_or r 0 (length spans) ≤ length spans
    low_end [] w = omega arith
    low_end (b ∷ r) w = w 0 0 (omega arith)

    start_low : a ≤ length spans
    start_low = within 0 0 (omega arith)

    inside : end - a ≤ length (drop a spans)
    inside =
        let long = length-drop a spans in
        let low = low_end rest (All-tail (λ n. n ≤ length spans) a rest within) in
        omega (arith, long, low)

    head : take (get_or (rest ++ length spans ∷ []) 0 (length (spans ++ more)) - a) (drop a (spans ++ more)) ≡ take (end - a) (drop a spans)
    head =
        ap (λ (n : ℕ). take (n - a) (drop a (spans ++ more))) (same_end rest)
        ∙ ap (λ (xs : List Span). take (end - a) xs) (drop-append-le a spans more start_low) ∙ take-append-le (end - a) (drop a spans) more inside

-- ---- the soft spans of a strip

pub spans_overlapped_of : (area : Rect) (boxes : List Placed) (joined overlapping_one : List Span) → IsJoin (map (λ p. x_extent p.rect) boxes) joined →
    IsMeet (x_extent area ∷ []) joined overlapping_one → AreOverlappedSpans area boxes overlapping_one
spans_overlapped_of area boxes joined overlapping_one j m = record {
  rising = m.rising;
  exact = λ s filled. (
    λ h.
        let both = (m.exact s filled).0 h in (
          any_one (λ t. LiesIn s t) (x_extent area) both.0,
          λ x holds. any_mapped (λ (p : Placed). x_extent p.rect) (λ t. HoldsNumber t x) boxes ((j.exact s filled).0 both.1 x holds),
        ),
    λ h. (m.exact s filled).1 (
      any_first (λ t. LiesIn s t) (x_extent area) [] h.0,
      (j.exact s filled).1 (λ x holds. any_map (λ (p : Placed). x_extent p.rect) (λ t. HoldsNumber t x) boxes (h.1 x holds)),
    ),
  );
}

pub soft_of : (f : Frame) (area : Rect) (tree near : List Placed) (spans : List Span) → IsPermutation (soft_boxes f) tree → AreAllOverlapping tree area near →
    AreOverlappedSpans area near spans → AreSoftIn f area spans
soft_of f area tree near spans moved n m = record {
  rising = m.rising;
  exact = λ s filled. (
    λ h. let both = (m.exact s filled).0 h in (both.0, λ x holds. soft_there x (both.0 x holds) (both.1 x holds)),
    λ h. (m.exact s filled).1 (h.0, λ x holds. overlapped_there x (h.0 x holds) (h.1 x holds)),
  );
}
  where
    soft_there : (x : ℤ) → HoldsNumber (x_extent area) x → Any (λ p. HoldsNumber (x_extent p.rect) x) near → IsSoftAt f area x
    soft_there x in_area (k, p, within, is, over) =
        let there : Contains near p = (k, within, is) in
        let found = All-contains (λ q. Contains tree q × SharesPoint area q.rect) near p (only_near tree area near n) there in
        let touch : SharesPoint area p.rect = found.1 in
        let back : Contains (soft_boxes f) p = Contains-permutation tree (soft_boxes f) p (IsPermutation-sym (soft_boxes f) tree moved) found.0 in
        let from = of_map (placed_with_number 0) f.soft p back in
        let rect : from.0 ≡ p.rect = ap (λ (q : Placed). q.rect) from.2 in
        record {
          y = touch.y;
          covers = record { left = in_area.low; right = in_area.high; bottom = touch.in_first.bottom; top = touch.in_first.top };
          soft = has_item (λ r. Covers r x touch.y) f.soft p.rect (subst (Contains f.soft) rect from.1)
              record { left = over.low; right = over.high; bottom = touch.in_second.bottom; top = touch.in_second.top };
        }

    overlapped_there : (x : ℤ) → HoldsNumber (x_extent area) x → IsSoftAt f area x → Any (λ p. HoldsNumber (x_extent p.rect) x) near
    overlapped_there x in_area h =
        let a = h.soft in
        let r : Rect = a.1 in
        let covers : Covers r x h.y = a.4 in
        let there : Contains tree (placed_with_number 0 r) = Contains-permutation (soft_boxes f) tree (placed_with_number 0 r) moved
        (map_there (placed_with_number 0) f.soft r (a.0, a.2, a.3)) in
        let inside : Contains near (placed_with_number 0 r) =
        All-contains (λ q. SharesPoint area q.rect → Contains near q) tree (placed_with_number 0 r) (each_near tree area near n) there
        record { x = x; y = h.y; in_first = h.covers; in_second = covers } in
        has_item (λ p. HoldsNumber (x_extent p.rect) x) near (placed_with_number 0 r) inside record { low = covers.left; high = covers.right }

-- One more strip.
pub soft_more : (f : Frame) (strips : List Strip) (k : ℕ) (d : Strip) (old new : List (List Span)) (more : List Span) → k < length strips →
    AreSoftOver f (take k strips) old → AreSoftIn f (get_or strips k d).area more → new ≡ old ++ more ∷ [] → AreSoftOver f (take (k + 1) strips) new
soft_more f strips k d old new more within a m is = subst (AreSoftOver f (take (k + 1) strips)) (sym is) record {
  many =
      let both = length-append old (more ∷ []) in
      let shorter = length-take k strips in
      let longer = length-take (k + 1) strips in
      let same = a.many in
      omega (arith, both, shorter, longer, same, within);
  each = λ n e inside. elim (side n inside) [
    | inl early ↦
        let shorter = length-take k strips in
        let before : n < length (take k strips) = omega (arith, shorter, early, within) in
        let same = a.many in
        let strip : get_or (take k strips) n e ≡ get_or (take (k + 1) strips) n e =
        get_or-take k strips n e early ∙ sym (get_or-take (k + 1) strips n e (omega (arith, early))) in
        let list : get_or old n [] ≡ get_or (old ++ more ∷ []) n [] = sym (get_or_append_left old (more ∷ []) [] n (omega (arith, before, same))) in
        subst (λ (g : Strip). AreSoftIn f g.area (get_or (old ++ more ∷ []) n [])) strip
        (subst (AreSoftIn f (get_or (take k strips) n e).area) list (a.each n e before))
    | inr last ↦
        let strip : get_or strips k d ≡ get_or (take (k + 1) strips) n e =
        get_or_default strips k d e within ∙ ap (λ (i : ℕ). get_or strips i e) (sym last) ∙ sym (get_or-take (k + 1) strips n e (omega (arith, last))) in
        let shorter = length-take k strips in
        let same = a.many in
        let at : n ≡ length old = omega (arith, last, shorter, same, within) in
        let list : more ≡ get_or (old ++ more ∷ []) n [] =
        sym (ap (λ (i : ℕ). get_or (old ++ more ∷ []) i []) at ∙ get_or-append_seam old more [] []) in
        subst (λ (g : Strip). AreSoftIn f g.area (get_or (old ++ more ∷ []) n [])) strip (subst (AreSoftIn f (get_or strips k d).area) list m)
  ];
}
  where
    side : (n : ℕ) → n < length (take (k + 1) strips) → (n < k) ⊎ (n ≡ k)
    side n inside = let longer = length-take (k + 1) strips in grind (arith, longer)

-- The soft spans of strips are those of their segments.
pub soft_of_segments : (f : Frame) (segments : List Segment) (soft : List (List Span)) → AreSoftOver f (map (strip_of f) segments) soft → AreSoft f segments soft
soft_of_segments f segments soft a = record {
  many = a.many ∙ length-map segments (strip_of f);
  each = λ n g is.
      let long = length-map segments (strip_of f) in
      let within = slice_get_within segments n g is in
      let strip : get_or (map (strip_of f) segments) n (strip_of f g) ≡ strip_of f g =
      get_or-map (strip_of f) segments n g ∙ ap (strip_of f) (get_or_from_slice_get segments n g g is) in
      let one : AreSoftIn f (strip_of f g).area (get_or soft n []) =
      subst (λ (d : Strip). AreSoftIn f d.area (get_or soft n [])) strip (a.each n (strip_of f g) (omega (arith, long, within))) in
      record { rising = one.rising; exact = one.exact };
}
