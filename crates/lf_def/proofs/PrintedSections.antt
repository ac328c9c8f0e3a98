-- Printed sections read back as their lists.
use Rattle.std.proofs.Common.{◌≡◌, ◌≢◌, ℕ, true, false, List, [], ◌∷◌, ◌++◌, All, map, refl, ap, sym, ◌∙◌, subst, arith}
use Rattle.std.specs.Prelude.{codes}
use Rattle.std.specs.Str.{bytes_eq}
use Rattle.std.proofs.lemmas.List.{append_assoc, append-nil, map-append}
use Rattle.std.proofs.lemmas.List.Elements.{All-head, All-tail, All-cons, All-nil}
use Rattle.lf_lex.specs.Tokens.{PlainToken}
use Rattle.lf_lex.specs.Splices.{plain_word}
use Rattle.lf_lex.specs.Reading.{Reader, turn, is, end_name, passed_token, to_semicolon}
use Rattle.lf_lex.proofs.Runs.{same, turn_bare}
use Rattle.lf_lex.proofs.BackWords.{end_back, is_at, not_eq}
use Rattle.lf_def.specs.Entries.{entry_or_end, section}
use Rattle.lf_def.specs.Printed.{entries_words}
use Rattle.lf_def.specs.PrintedComponents.{entries_tokens}
use Rattle.lf_def.proofs.Following.{Grows}
use Rattle.lf_lex.proofs.Back.{BackAt, Back, TurnsAt, TurnsBack, back_pure, back_bind, back_first, back_yes, back_no, at_bind, at_map, at_first, at_yes}
use Rattle.lf_lex.proofs.Back.{at_more, at_block, turns_last, block_back}
use Rattle.lf_def.proofs.PrintedLists.{then_turns}

-- Words that are skipped, up to a semicolon.
pub passed_back : (ws : List (List ℕ)) → All (λ w. w ≢ codes ";") ws → TurnsBack same passed_token tt (ws ++ codes ";" ∷ []) tt
unfolding passed_token
passed_back [] h = turns_last same passed_token tt tt (codes ";" ∷ [])
    (back_first same _ (codes ";") [] (turn tt false) (λ t e. back_yes same (is (codes ";") t) _ _ [] (turn tt false) (is_at (codes ";") (codes ";") t e)
    (back_pure same (turn tt false) (turn tt false) refl)))
passed_back (w ∷ ws) h =
    then_turns passed_token tt tt tt w [] (ws ++ codes ";" ∷ [])
    (back_first same _ w [] (turn tt true) (λ t e. back_no same (is (codes ";") t) _ _ [] (turn tt true)
    (is_at (codes ";") w t e ∙ not_eq w (codes ";") (All-head (λ w. w ≢ codes ";") w ws h)) (back_pure same (turn tt true) (turn tt true) refl)))
    (passed_back ws (All-tail (λ w. w ≢ codes ";") w ws h))

pub to_semicolon_back : (ws : List (List ℕ)) → All (λ w. w ≢ codes ";") ws → Back same to_semicolon (ws ++ codes ";" ∷ []) tt
to_semicolon_back ws h = block_back same passed_token tt tt (ws ++ codes ";" ∷ []) (passed_back ws h)

last_entry : {A B C : Type 0} (bare : A → B) (bare_list : List A → C) (due : List ℕ) (entry : Reader A) (s y : List A) → bytes_eq due due ≡ true
    → bare_list s ≡ bare_list y
    → Back (turn_bare bare_list) (entry_or_end due entry s) (codes "END" ∷ due ∷ []) (turn y false)
unfolding entry_or_end
last_entry bare bare_list due entry s y own e =
    back_first (turn_bare bare_list) _ (codes "END") (due ∷ []) (turn y false)
    (λ t et. back_no (turn_bare bare_list) (is (codes "-") t) _ _ (due ∷ []) (turn y false) (is_at (codes "-") (codes "END") t et)
    (back_yes (turn_bare bare_list) (is (codes "END") t) _ _ (due ∷ []) (turn y false) (is_at (codes "END") (codes "END") t et)
    (back_bind same (turn_bare bare_list) (end_name due) _ (due ∷ []) [] tt (turn y false) (end_back due own)
    (λ u eu. back_pure (turn_bare bare_list) (turn y false) (turn s false) (ap (λ (z : _). turn z false) e)))))

one_entry : {A B C : Type 0} (bare : A → B) (bare_list : List A → C) → Grows bare bare_list
    → (due : List ℕ) (entry : Reader A) (tokens : List PlainToken) (x : A) (s s' : List A)
    → bare_list s' ≡ bare_list s → BackAt bare entry tokens x
    → BackAt (turn_bare bare_list) (entry_or_end due entry s') (plain_word (codes "-") ∷ tokens) (turn (s ++ x ∷ []) true)
unfolding entry_or_end
one_entry bare bare_list grows due entry tokens x s s' e f =
    let y = turn (s ++ x ∷ []) true in
    at_first (turn_bare bare_list) _ (plain_word (codes "-")) tokens y
    (λ t et. at_yes (turn_bare bare_list) (is (codes "-") t) _ _ tokens y (is_at (codes "-") (codes "-") t et)
    (at_map bare (turn_bare bare_list) entry (λ (z : _). turn (s' ++ z ∷ []) true) tokens x y f (λ x' ex. ap (λ (z : _). turn z true) (grows s s' x x' e ex))))

entries_turns : {A B C X : Type 0} (bare : A → B) (bare_list : List A → C) → Grows bare bare_list → (due : List ℕ) → bytes_eq due due ≡ true
    → (entry : Reader A)
    (tokens : X → List PlainToken) (value : X → A) (P : X → Type 0) → ((x : X) → P x → BackAt bare entry (tokens x) (value x))
    → (xs : List X) (s s' : List A) → All P xs → bare_list s' ≡ bare_list s
    → TurnsAt bare_list (entry_or_end due entry) s' (entries_tokens tokens xs (plain_word (codes "END") ∷ plain_word due ∷ [])) (s ++ map value xs)
entries_turns bare bare_list grows due own entry tokens value P f [] s s' h e =
    rw (append-nil s) (turns_last bare_list (entry_or_end due entry) s' s (codes "END" ∷ due ∷ []) (last_entry bare bare_list due entry s' s own e))
entries_turns bare bare_list grows due own entry tokens value P f (x ∷ xs) s s' h e =
    let after_it = entries_tokens tokens xs (plain_word (codes "END") ∷ plain_word due ∷ []) in
    let there : (s ++ value x ∷ []) ++ map value xs ≡ s ++ value x ∷ map value xs = append_assoc s (value x ∷ []) (map value xs) in
    at_more bare_list (entry_or_end due entry) s' (s ++ value x ∷ []) (s ++ value x ∷ map value xs) (plain_word (codes "-") ∷ tokens x) after_it (omega arith)
    (one_entry bare bare_list grows due entry (tokens x) (value x) s s' e (f x (All-head P x xs h))) (λ s1 e1.
    subst (λ (z : List _). TurnsAt bare_list (entry_or_end due entry) s1 after_it z) there
    (entries_turns bare bare_list grows due own entry tokens value P f xs (s ++ value x ∷ []) s1 (All-tail P x xs h) e1))

-- A section after its keyword.
pub section_at : {A B C X : Type 0} (bare : A → B) (bare_list : List A → C) → Grows bare bare_list → (due : List ℕ) → bytes_eq due due ≡ true
    → (entry : Reader A)
    (tokens : X → List PlainToken) (value : X → A) (P : X → Type 0) → ((x : X) → P x → BackAt bare entry (tokens x) (value x))
    → (count : List ℕ) → count ≢ codes ";" → (xs : List X) (s : List A) → All P xs
    → BackAt bare_list (section due entry s) (plain_word count ∷ plain_word (codes ";") ∷ entries_tokens tokens xs (plain_word (codes "END") ∷ plain_word due ∷ []))
    (s ++ map value xs)
unfolding section
section_at bare bare_list grows due own entry tokens value P f count other xs s h =
    let after_it = entries_tokens tokens xs (plain_word (codes "END") ∷ plain_word due ∷ []) in
    let count_is = All-cons (λ w. w ≢ codes ";") count [] other (All-nil (λ w. w ≢ codes ";")) in
    at_bind same bare_list to_semicolon _ (plain_word count ∷ plain_word (codes ";") ∷ []) after_it tt (s ++ map value xs) (to_semicolon_back (count ∷ []) count_is)
    (λ u eu.
    at_block bare_list (entry_or_end due entry) s (s ++ map value xs) after_it (entries_turns bare bare_list grows due own entry tokens value P f xs s s h refl))

-- Words are tokens, and each entry is its own value.

entries_of_words : {A : Type 0} (words : A → List (List ℕ)) (xs : List A) (rest : List (List ℕ))
    → map plain_word (entries_words words xs rest) ≡ entries_tokens (λ x. map plain_word (words x)) xs (map plain_word rest)
entries_of_words words [] rest = refl
entries_of_words words (x ∷ xs) rest =
    ap (λ (z : List PlainToken). plain_word (codes "-") ∷ z)
    (map-append plain_word (words x) (entries_words words xs rest) ∙ ap (λ (z : List PlainToken). map plain_word (words x) ++ z) (entries_of_words words xs rest))

each_itself : {A : Type 0} (xs : List A) → map (λ x. x) xs ≡ xs
each_itself [] = refl
each_itself (x ∷ xs) = ap (λ (z : List _). x ∷ z) (each_itself xs)

pub section_back : {A B C : Type 0} (bare : A → B) (bare_list : List A → C) → Grows bare bare_list → (due : List ℕ) → bytes_eq due due ≡ true
    → (entry : Reader A)
    (words : A → List (List ℕ)) (P : A → Type 0) → ((x : A) → P x → Back bare entry (words x) x)
    → (count : List ℕ) → count ≢ codes ";" → (xs s : List A) → All P xs
    → Back bare_list (section due entry s) (count ∷ codes ";" ∷ entries_words words xs (codes "END" ∷ due ∷ [])) (s ++ xs)
section_back bare bare_list grows due own entry words P f count other xs s h =
    let front = plain_word count ∷ plain_word (codes ";") ∷ [] in
    subst (λ (z : List PlainToken). BackAt bare_list (section due entry s) (front ++ z) (s ++ xs)) (sym (entries_of_words words xs (codes "END" ∷ due ∷ [])))
    (subst (λ (z : List _). BackAt bare_list (section due entry s)
    (front ++ entries_tokens (λ x. map plain_word (words x)) xs (plain_word (codes "END") ∷ plain_word due ∷ [])) (s ++ z)) (each_itself xs)
    (section_at bare bare_list grows due own entry (λ x. map plain_word (words x)) (λ x. x) P f count other xs s h))
