-- Words with a space in front of each, part by part, and lines.
use Rattle.std.proofs.Common.{◌≡◌, ℕ, ◌≤◌, List, [], ◌∷◌, ◌++◌, length, take, map, refl, sym, ap, ◌∙◌, append_assoc, append-nil}
use Rattle.std.specs.List.{flat_map}
use Rattle.std.proofs.lemmas.List.{take_all, flat_map_more}
use Rattle.std.proofs.lemmas.List.Concat.{flat_map-append}
use Rattle.lf_lex.specs.Splices.{spaced}
use Rattle.lf_team_def.specs.TeamText.{words_line}

pub spaced_append : (a b : List (List ℕ)) → spaced (a ++ b) ≡ spaced a ++ spaced b
spaced_append [] b = refl
spaced_append (w ∷ ws) b = ap (λ (l : List ℕ). 32 ∷ (w ++ l)) (spaced_append ws b) ∙ ap (λ (l : List ℕ). 32 ∷ l) (sym (append_assoc w (spaced ws) (spaced b)))

pub spaced_map : {X : Type 0} (f : X → List ℕ) (xs : List X) → spaced (map f xs) ≡ flat_map (λ x. 32 ∷ f x) xs
spaced_map f [] = refl
spaced_map f (x ∷ xs) = ap (λ (l : List ℕ). 32 ∷ (f x ++ l)) (spaced_map f xs)

pub spaced_flat : {X : Type 0} (f : X → List (List ℕ)) (xs : List X) → spaced (flat_map f xs) ≡ flat_map (λ x. spaced (f x)) xs
spaced_flat f [] = refl
spaced_flat f (x ∷ xs) = spaced_append (f x) (flat_map f xs) ∙ ap (λ (l : List ℕ). spaced (f x) ++ l) (spaced_flat f xs)

-- Pieces in order.

-- All pieces.
pub put_all : {X : Type 0} (g : X → List ℕ) (old a : List ℕ) (xs : List X) (i : ℕ) → length xs ≤ i → a ≡ old ++ flat_map g (take i xs)
    → a ≡ old ++ flat_map g xs
put_all g old a xs i past so_far = so_far ∙ ap (λ ys. old ++ flat_map g ys) (take_all i xs past)

-- Lines after lines.
pub put_lines : (old a new : List ℕ) (xs : List (List (List ℕ))) (l : List (List ℕ)) → a ≡ old ++ flat_map words_line xs → new ≡ a ++ words_line l
    → new ≡ old ++ flat_map words_line (xs ++ l ∷ [])
put_lines old a new xs l so_far line = line ∙ ap (λ (b : List ℕ). b ++ words_line l) so_far ∙ flat_map_more words_line old xs l

pub put_one : (old new : List ℕ) (l : List (List ℕ)) → new ≡ old ++ words_line l → new ≡ old ++ flat_map words_line (l ∷ [])
put_one old new l line = line ∙ ap (λ (b : List ℕ). old ++ b) (sym (append-nil (words_line l)))

pub put_others : (old a new : List ℕ) (xs ys : List (List (List ℕ))) → a ≡ old ++ flat_map words_line xs → new ≡ a ++ flat_map words_line ys
    → new ≡ old ++ flat_map words_line (xs ++ ys)
put_others old a new xs ys so_far others =
    others ∙ ap (λ (b : List ℕ). b ++ flat_map words_line ys) so_far ∙ append_assoc old (flat_map words_line xs) (flat_map words_line ys)
    ∙ ap (λ (b : List ℕ). old ++ b) (sym (flat_map-append words_line xs ys))

-- Five lines, and three.
pub put_five : (old a b c d new : List ℕ) (l1 l2 l3 l4 l5 : List (List ℕ)) → a ≡ old ++ words_line l1 → b ≡ a ++ words_line l2 → c ≡ b ++ words_line l3
    → d ≡ c ++ words_line l4
    → new ≡ d ++ words_line l5 → new ≡ old ++ flat_map words_line (l1 ∷ l2 ∷ l3 ∷ l4 ∷ l5 ∷ [])
put_five old a b c d new l1 l2 l3 l4 l5 e1 e2 e3 e4 e5 =
    put_lines old d new (l1 ∷ l2 ∷ l3 ∷ l4 ∷ []) l5
    (put_lines old c d (l1 ∷ l2 ∷ l3 ∷ []) l4 (put_lines old b c (l1 ∷ l2 ∷ []) l3 (put_lines old a b (l1 ∷ []) l2 (put_one old a l1 e1) e2) e3) e4) e5

pub put_three : (old a b new : List ℕ) (l1 l2 l3 : List (List ℕ)) → a ≡ old ++ words_line l1 → b ≡ a ++ words_line l2 → new ≡ b ++ words_line l3
    → new ≡ old ++ flat_map words_line (l1 ∷ l2 ∷ l3 ∷ [])
put_three old a b new l1 l2 l3 e1 e2 e3 = put_lines old b new (l1 ∷ l2 ∷ []) l3 (put_lines old a b (l1 ∷ []) l2 (put_one old a l1 e1) e2) e3

-- The lines of a section: the first, those of the entries, and the last.
pub put_section : (old a b new : List ℕ) (first last : List (List ℕ)) (entries : List (List (List ℕ))) → a ≡ old ++ words_line first
    → b ≡ a ++ flat_map words_line entries
    → new ≡ b ++ words_line last → new ≡ old ++ flat_map words_line (first ∷ (entries ++ last ∷ []))
put_section old a b new first last entries e1 e2 e3 =
    put_lines old b new (first ∷ entries) last (put_others old a b (first ∷ []) entries (put_one old a first e1) e2) e3

-- A whole text: lines in four parts, and a last line.
pub put_whole : (old a b c d new : List ℕ) (l1 l2 l3 l4 : List (List (List ℕ))) (last : List (List ℕ)) → a ≡ old ++ flat_map words_line l1
    → b ≡ a ++ flat_map words_line l2 → c ≡ b ++ flat_map words_line l3 → d ≡ c ++ flat_map words_line l4 → new ≡ d ++ words_line last
    → new ≡ old ++ flat_map words_line (l1 ++ (l2 ++ (l3 ++ (l4 ++ last ∷ []))))
put_whole old a b c d new l1 l2 l3 l4 last e1 e2 e3 e4 e5 =
    put_lines old d new (((l1 ++ l2) ++ l3) ++ l4) last
    (put_others old c d ((l1 ++ l2) ++ l3) l4 (put_others old b c (l1 ++ l2) l3 (put_others old a b l1 l2 e1 e2) e3) e4) e5
    ∙ ap (λ (ls : List (List (List ℕ))). old ++ flat_map words_line ls) (regroup l1 l2 l3 l4 (last ∷ []))
  where
    regroup : (a b c d e : List (List (List ℕ))) → (((a ++ b) ++ c) ++ d) ++ e ≡ a ++ (b ++ (c ++ (d ++ e)))
    regroup a b c d e = simp append_assoc

-- A line of words in parts: the first word, a second, words between, the words at the end, and a
-- line feed.
pub put_in_parts : (old a b c d new first second : List ℕ) (between last : List (List ℕ)) → a ≡ old ++ first → b ≡ a ++ spaced (second ∷ [])
    → c ≡ b ++ spaced between
    → d ≡ c ++ spaced last → new ≡ d ++ 10 ∷ [] → new ≡ old ++ words_line (first ∷ second ∷ (between ++ last))
put_in_parts old a b c d new first second between last e1 e2 e3 e4 e5 =
    let words : spaced (second ∷ (between ++ last)) ≡ spaced (second ∷ []) ++ (spaced between ++ spaced last) =
    spaced_append (second ∷ []) (between ++ last) ∙ ap (λ (l : List ℕ). spaced (second ∷ []) ++ l) (spaced_append between last) in
    e5 ∙ ap (λ (l : List ℕ). l ++ 10 ∷ [])
    (e4 ∙ ap (λ (l : List ℕ). l ++ spaced last) (e3 ∙ ap (λ (l : List ℕ). l ++ spaced between) (e2 ∙ ap (λ (l : List ℕ). l ++ spaced (second ∷ [])) e1)))
    ∙ regroup old first (spaced (second ∷ [])) (spaced between) (spaced last) (10 ∷ [])
    ∙ ap (λ (l : List ℕ). old ++ ((first ++ l) ++ 10 ∷ [])) (sym words)
  where
    regroup : (a b c d e f : List ℕ) → ((((a ++ b) ++ c) ++ d) ++ e) ++ f ≡ a ++ ((b ++ (c ++ (d ++ e))) ++ f)
    regroup a b c d e f = simp append_assoc
