-- Lines as they are written and as they are read.
use Rattle.std.proofs.Common.{◌≡◌, ℕ, zero, suc, ◌+◌, ◌≤◌, ◌<◌, List, [], ◌∷◌, ◌++◌, length, take, map, get_or, Bool, true, false, cond, nat_lt, Option, None, Some, refl, sym, ap, subst, ◌∙◌, append_assoc, append-nil, arith}
use Rattle.std.specs.Prelude.{All, IfSome, codes, count_by, slice_get}
use Rattle.std.specs.Fmt.{decimal}
use Rattle.std.proofs.lemmas.List.Concat.{flat_map-cons}
use Rattle.std.proofs.lemmas.List.Elements.{All-cons, All-filter, All-head, All-nil, All-tail, recursion_from_All}
use Rattle.std.proofs.lemmas.List.Sums.{length-filter}
use Rattle.std.specs.List.{flat_map, join_with_byte}
use Rattle.lf_proto.proofs.Fronts.{join_cons}
use Rattle.std.proofs.lemmas.List.{take_all}
use Rattle.lf_proto.specs.ReplyText.{spaced_line}
use Rattle.lf_undo.specs.declared.moves.Move.{Move}
use Rattle.lf_state_text.specs.Saved.{IsSpot, IsSpottedEntry, entry_lines, lines_by, move_line, moves_within}
use Rattle.lf_state_text.specs.Writing.{entry_if, line_of_pair, line_if, move_within, spaced_state_word, state_word_text}
use Rattle.lf_state_text.specs.declared.write.Word.{Word}

-- the words of a line after its first, and the bytes after the line
abbrev pub line_rest : List (List ℕ) → List ℕ → List ℕ
line_rest [] rest = 10 ∷ rest
line_rest (w ∷ ws) rest = 32 ∷ (w ++ line_rest ws rest)

joined-rest : (w : List ℕ) (ws : List (List ℕ)) (rest : List ℕ) → join_with_byte 32 (w ∷ ws) ++ 10 ∷ rest ≡ w ++ line_rest ws rest
joined-rest w [] rest = refl
joined-rest w (v ∷ ws) rest =
    append_assoc w (32 ∷ join_with_byte 32 (v ∷ ws)) (10 ∷ rest) ∙ ap (λ (l : List ℕ). w ++ 32 ∷ l) (joined-rest v ws rest)

pub line-rest : (w : List ℕ) (ws : List (List ℕ)) (rest : List ℕ) → spaced_line (w ∷ ws) ++ rest ≡ w ++ line_rest ws rest
line-rest w ws rest = append_assoc (join_with_byte 32 (w ∷ ws)) (10 ∷ []) rest ∙ joined-rest w ws rest

-- a line is its first word, then a space and the word for each other word, then a line feed
pub line_put : (before first : List ℕ) (words : List Word) → ((before ++ first) ++ flat_map spaced_state_word words) ++ 10 ∷ [] ≡ before ++ spaced_line (first ∷ map state_word_text words)
line_put before first words =
    regroup before first (flat_map spaced_state_word words) (10 ∷ [])
    ∙ ap (λ (l : List ℕ). before ++ (l ++ 10 ∷ [])) (sym (join_cons state_word_text 32 first words))
  where
    regroup : (a b c d : List ℕ) → ((a ++ b) ++ c) ++ d ≡ a ++ ((b ++ c) ++ d)
    regroup a b c d = simp append_assoc

-- ---- pieces that are written

pub put_all : {X : Type 0} (g : X → List ℕ) (old a : List ℕ) (xs : List X) (i : ℕ) → length xs ≤ i → a ≡ old ++ flat_map g (take i xs)
    → a ≡ old ++ flat_map g xs
put_all g old a xs i past so_far = so_far ∙ ap (λ ys. old ++ flat_map g ys) (take_all i xs past)

-- ---- lines by two lists

module _ {A B : Type 0} (line : A → B → List ℕ) where
  lines_none : (firsts : List A) → lines_by line firsts [] ≡ []
  lines_none [] = refl
  lines_none (a ∷ firsts) = refl

  one_line : (firsts : List A) (seconds : List B) (i : ℕ) → lines_by line firsts (take (suc i) seconds) ≡ lines_by line firsts (take i seconds) ++ line_of_pair line firsts seconds i
  one_line [] [] zero = refl
  one_line [] [] (suc i) = refl
  one_line (a ∷ firsts) [] zero = refl
  one_line (a ∷ firsts) [] (suc i) = refl
  one_line [] (b ∷ seconds) zero = refl
  one_line [] (b ∷ seconds) (suc i) = none_more (slice_get seconds i)
    where
      none_more : (o : Option B) → [] ≡ line_if line None o
      none_more None = refl
      none_more (Some c) = refl
  one_line (a ∷ firsts) (b ∷ seconds) zero =
      ap (λ (l : List ℕ). line a b ++ l) (lines_none firsts) ∙ append-nil (line a b)
  one_line (a ∷ firsts) (b ∷ seconds) (suc i) =
      ap (λ (l : List ℕ). line a b ++ l) (one_line firsts seconds i) ∙ sym (append_assoc (line a b) (lines_by line firsts (take i seconds)) (line_of_pair line firsts seconds i))

  -- no line yet
  pub no_line : (before : List ℕ) (firsts : List A) → before ≡ before ++ lines_by line firsts []
  no_line before firsts = sym (ap (λ (l : List ℕ). before ++ l) (lines_none firsts) ∙ append-nil before)

  -- the lines so far and the next one
  pub next_line : (before : List ℕ) (firsts : List A) (seconds : List B) (i : ℕ) → (before ++ lines_by line firsts (take i seconds)) ++ line_of_pair line firsts seconds i ≡ before ++ lines_by line firsts (take (i + 1) seconds)
  next_line before firsts seconds i =
      let more : i + 1 ≡ suc i = omega arith in
      append_assoc before (lines_by line firsts (take i seconds)) (line_of_pair line firsts seconds i)
      ∙ ap (λ (l : List ℕ). before ++ l) (sym (rw more (one_line firsts seconds i)))

  -- the lines so far are all lines
  pub all_lines : (before : List ℕ) (firsts : List A) (seconds : List B) (i : ℕ) → length seconds ≤ i → before ++ lines_by line firsts (take i seconds) ≡ before ++ lines_by line firsts seconds
  all_lines before firsts seconds i past = ap (λ (xs : List B). before ++ lines_by line firsts xs) (take_all i seconds past)

  -- the line at that position, if both lists have an element there
  pub line_there : (firsts : List A) (seconds : List B) (i : ℕ) (a : A) (b : B) → i < length firsts → i < length seconds
      → line_of_pair line firsts seconds i ≡ line (get_or firsts i a) (get_or seconds i b)
  line_there [] seconds i a b here there = absurd (omega arith)
  line_there (x ∷ firsts) [] i a b here there = absurd (omega arith)
  line_there (x ∷ firsts) (y ∷ seconds) zero a b here there = refl
  line_there (x ∷ firsts) (y ∷ seconds) (suc i) a b here there = line_there firsts seconds i a b (omega arith) (omega arith)

-- ---- undo entries

-- the lines so far and those of the next entry
next_entry : (entries : List (List Move)) (i : ℕ) → flat_map entry_lines (take (suc i) entries) ≡ flat_map entry_lines (take i entries) ++ entry_if (slice_get entries i)
next_entry [] zero = refl
next_entry [] (suc i) = refl
next_entry (ms ∷ entries) zero = flat_map-cons entry_lines ms [] ∙ append-nil (entry_lines ms)
next_entry (ms ∷ entries) (suc i) =
    flat_map-cons entry_lines ms (take (suc i) entries)
    ∙ ap (λ (l : List ℕ). entry_lines ms ++ l) (next_entry entries i)
    ∙ sym (append_assoc (entry_lines ms) (flat_map entry_lines (take i entries)) (entry_if (slice_get entries i)))
    ∙ ap (λ (l : List ℕ). l ++ entry_if (slice_get entries i)) (sym (flat_map-cons entry_lines ms (take i entries)))

pub entry_next : (before : List ℕ) (entries : List (List Move)) (i : ℕ)
    → (before ++ flat_map entry_lines (take i entries)) ++ entry_if (slice_get entries i) ≡ before ++ flat_map entry_lines (take (i + 1) entries)
entry_next before entries i =
    let more : i + 1 ≡ suc i = omega arith in
    append_assoc before (flat_map entry_lines (take i entries)) (entry_if (slice_get entries i))
    ∙ ap (λ (l : List ℕ). before ++ l) (sym (rw more (next_entry entries i)))

-- moves of no cell are left out
pub moves_put : (cells : ℕ) (moves : List Move) → flat_map (move_within cells) moves ≡ flat_map move_line (moves_within cells moves)
moves_put cells [] = refl
moves_put cells (m ∷ moves) =
    flat_map-cons (move_within cells) m moves
    ∙ ap (λ (l : List ℕ). move_within cells m ++ l) (moves_put cells moves)
    ∙ by (nat_lt m.own cells) where
      by : (b : Bool) → cond b (move_line m) [] ++ flat_map move_line (moves_within cells moves) ≡ flat_map move_line (cond b (m ∷ moves_within cells moves) (moves_within cells moves))
      by true = sym (flat_map-cons move_line m (moves_within cells moves))
      by false = refl

-- an entry, whose moves are counted first
pub entry_put : (cells count : ℕ) (moves : List Move) → count ≡ count_by (λ m. nat_lt m.own cells) moves
    → spaced_line (codes "undo" ∷ decimal count ∷ []) ++ flat_map (move_within cells) moves ≡ entry_lines (moves_within cells moves)
entry_put cells count moves is =
    let many : count ≡ length (moves_within cells moves) = is ∙ sym (length-filter (λ (m : Move). nat_lt m.own cells) moves) in
    ap (λ (n : ℕ). spaced_line (codes "undo" ∷ decimal n ∷ []) ++ flat_map (move_within cells) moves) many
    ∙ ap (λ (l : List ℕ). spaced_line (codes "undo" ∷ decimal (length (moves_within cells moves)) ∷ []) ++ l) (moves_put cells moves)

-- ---- states that have a text

count_less : (cells : ℕ) (moves : List Move) → length (moves_within cells moves) ≤ length moves
count_less cells [] = omega arith
count_less cells (m ∷ moves) = by (nat_lt m.own cells) (count_less cells moves) where
  by : (b : Bool) → length (moves_within cells moves) ≤ length moves → length (cond b (m ∷ moves_within cells moves) (moves_within cells moves)) ≤ suc (length moves)
  by true less = omega (arith, less)
  by false less = omega (arith, less)

pub entry_spotted : (cells : ℕ) (moves : List Move) → length moves ≤ 4294967295 → All (λ m. IfSome m.place IsSpot) moves → IsSpottedEntry (moves_within cells moves)
entry_spotted cells moves few spotted = (
  omega (arith, few, count_less cells moves),
  recursion_from_All (λ (m : Move). IfSome m.place IsSpot) (moves_within cells moves)
      (All-filter (λ (m : Move). nat_lt m.own cells) (λ (m : Move). IfSome m.place IsSpot) moves spotted),
)

-- the fact holds for one more element
next_is : {X : Type 0} (P : X → Type 0) (xs : List X) (i : ℕ) → i < length xs → All P (take i xs) → IfSome (slice_get xs i) P → All P (take (suc i) xs)
next_is P [] i less all is = absurd (omega (arith, less))
next_is P (x ∷ xs) zero less all is = All-cons P x [] is (All-nil P)
next_is P (x ∷ xs) (suc i) less all is =
    All-cons P x (take (suc i) xs) (All-head P x (take i xs) all) (next_is P xs i (omega (arith, less)) (All-tail P x (take i xs) all) is)

pub one_more_is : {X : Type 0} (P : X → Type 0) (xs : List X) (i : ℕ) → i < length xs → All P (take i xs) → IfSome (slice_get xs i) P → All P (take (i + 1) xs)
one_more_is P xs i less all is =
    let more : i + 1 ≡ suc i = omega arith in
    subst (λ (n : ℕ). All P (take n xs)) (sym more) (next_is P xs i less all is)
