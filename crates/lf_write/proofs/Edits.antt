-- The effect of splices on tokens, statement after statement.
use Rattle.std.proofs.Common.{◌≡◌, ℕ, zero, suc, ◌<◌, Bool, true, false, cond, List, [], ◌∷◌, ◌++◌, map, length, refl, sym, ap, ◌∙◌}
use Rattle.std.proofs.lemmas.List.{append_assoc, map-append}
use Rattle.lf_lex.specs.Tokens.{Lexed, Lexeme, PlainToken, plain, with_tokens}
use Rattle.lf_lex.specs.Splices.{Splice, ReplacesTokens, AreEdited, plain_word}
use Rattle.lf_lex.specs.Reading.{Reader, Statement, Turn, taken, turn, statements}
use Rattle.lf_lex.proofs.Runs.{turn_bare, ok_is, with_both}
use Rattle.lf_lex.proofs.Back.{BackAt, TurnsAt, at_last, at_more}
use Rattle.lf_def.proofs.Clauses.{bind_ok}

-- Splices of two runs, in order.

makes_more : (s : Splice) (words : List (List ℕ)) (middle after more : List Lexeme) → ReplacesTokens s words middle after → ReplacesTokens s words middle (after ++ more)
makes_more s words [] [] more m = absurd m
makes_more s words [] (t ∷ after) more m = m
makes_more s words (t ∷ middle) after more m = m

pub edited_after : (ss : List Splice) (a b : List Lexeme) (q : List PlainToken) → AreEdited ss b q → AreEdited ss (a ++ b) (map plain a ++ q)
edited_after [] a b q e = map-append plain a b ∙ ap (λ (z : List PlainToken). map plain a ++ z) e
edited_after (s ∷ ss) a b q e = record {
  before = a ++ e.before;
  middle = e.middle;
  after = e.after;
  words = e.words;
  later = e.later;
  tokens = ap (λ (z : List Lexeme). a ++ z) e.tokens ∙ sym (append_assoc a e.before (e.middle ++ e.after));
  makes = e.makes;
  spelled = e.spelled;
  new = ap (λ (z : List PlainToken). map plain a ++ z) e.new ∙ sym (append_assoc (map plain a) (map plain e.before) (map plain_word e.words ++ e.later))
      ∙ ap (λ (z : List PlainToken). z ++ (map plain_word e.words ++ e.later)) (sym (map-append plain a e.before));
  next = e.next;
}

pub edited_both : (ss ts : List Splice) (a b : List Lexeme) (p q : List PlainToken) → AreEdited ss a p → AreEdited ts b q → AreEdited (ss ++ ts) (a ++ b) (p ++ q)
edited_both [] ts a b p q e f = rw (sym e) (edited_after ts a b q f)
edited_both (s ∷ ss) ts a b p q e f = record {
  before = e.before;
  middle = e.middle;
  after = e.after ++ b;
  words = e.words;
  later = e.later ++ q;
  tokens = ap (λ (z : List Lexeme). z ++ b) e.tokens ∙ append_assoc e.before (e.middle ++ e.after) b
      ∙ ap (λ (z : List Lexeme). e.before ++ z) (append_assoc e.middle e.after b);
  makes = makes_more s e.words e.middle e.after b e.makes;
  spelled = e.spelled;
  new = ap (λ (z : List PlainToken). z ++ q) e.new ∙ append_assoc (map plain e.before) (map plain_word e.words ++ e.later) q
      ∙ ap (λ (z : List PlainToken). map plain e.before ++ z) (append_assoc (map plain_word e.words) e.later q);
  next = edited_both ss ts e.after b e.later q e.next f;
}

-- The tokens that a reader takes, those tokens after the splices, and the value x that is read from
-- them, from each state like s.
pub record Made {S A D E : Type 0} (like : S → D) (bare : A → E) (reader : S → Reader A) (l m : Lexed) (made : List Splice) (s : S) (x : A) : Type 0 where
  pub run : List Lexeme
  pub whole : l ≡ with_tokens run m
  pub tokens : List PlainToken
  pub edited : AreEdited made run tokens
  pub again : (s' : S) → like s' ≡ like s → BackAt bare (reader s') tokens x

-- One turn, where `all` is the splices of a state and `place` is the state after them.
pub record MadeTurn {S D : Type 0} (bare : S → D) (place : S → S) (all : S → List Splice) (statement : Statement S) (l m : Lexed) (s : S)
    (t : Turn S) : Type 0 where
  pub made : List Splice
  pub grown : all t.state ≡ all s ++ made
  pub run : List Lexeme
  pub whole : l ≡ with_tokens run m
  pub tokens : List PlainToken
  pub edited : AreEdited made run tokens
  pub some : t.more ≡ true → 0 < length tokens
  pub again : (s' : S) → bare s' ≡ bare (place s) → BackAt (turn_bare bare) (statement s') tokens (turn (place t.state) t.more)

-- All turns.
pub record AllMade {S D : Type 0} (bare : S → D) (place : S → S) (all : S → List Splice) (statement : Statement S) (l m : Lexed) (s y : S) : Type 0 where
  pub made : List Splice
  pub grown : all y ≡ all s ++ made
  pub run : List Lexeme
  pub whole : l ≡ with_tokens run m
  pub tokens : List PlainToken
  pub edited : AreEdited made run tokens
  pub again : (s' : S) → bare s' ≡ bare (place s) → TurnsAt bare statement s' tokens (place y)

last_made : {S D : Type 0} (bare : S → D) (place : S → S) (all : S → List Splice) (statement : Statement S) (l m n : Lexed) (s s1 y : S)
    → MadeTurn bare place all statement l n s (turn s1 false) → s1 ≡ y → n ≡ m → AllMade bare place all statement l m s y
last_made bare place all statement l m n s s1 y f e g =
    rw (sym e, sym g) (record {
      made = f.made;
      grown = f.grown;
      run = f.run;
      whole = f.whole;
      tokens = f.tokens;
      edited = f.edited;
      again = λ s' a. at_last bare statement s' (place s1) f.tokens (f.again s' a);
    })

more_made : {S D : Type 0} (bare : S → D) (place : S → S) (all : S → List Splice) (statement : Statement S) (l m n : Lexed) (s s1 y : S)
    → MadeTurn bare place all statement l n s (turn s1 true) → AllMade bare place all statement n m s1 y → AllMade bare place all statement l m s y
more_made bare place all statement l m n s s1 y f g = record {
  made = f.made ++ g.made;
  grown = g.grown ∙ ap (λ (z : List Splice). z ++ g.made) f.grown ∙ append_assoc (all s) f.made g.made;
  run = f.run ++ g.run;
  whole = f.whole ∙ ap (λ (z : Lexed). with_tokens f.run z) g.whole ∙ sym (with_both f.run g.run m);
  tokens = f.tokens ++ g.tokens;
  edited = edited_both f.made g.made f.run g.run f.tokens g.tokens f.edited g.edited;
  again = λ s' a. at_more bare statement s' (place s1) (place y) f.tokens g.tokens (f.some refl) (f.again s' a) g.again;
}

made_by : {S D : Type 0} (bare : S → D) (place : S → S) (all : S → List Splice) (statement : Statement S) (n : ℕ) (l m rest : Lexed) (s s1 y : S) (more : Bool)
    → MadeTurn bare place all statement l rest s (turn s1 more)
    → (statements statement n s1 rest ≡ taken y m → AllMade bare place all statement rest m s1 y)
    → cond more (statements statement n s1 rest) (taken s1 rest) ≡ taken y m → AllMade bare place all statement l m s y
made_by bare place all statement n l m rest s s1 y true f next e = more_made bare place all statement l m rest s s1 y f (next e)
made_by bare place all statement n l m rest s s1 y false f next e =
    let d = ok_is s1 rest y m e in last_made bare place all statement l m rest s s1 y f d.0 d.1

pub all_made : {S D : Type 0} (bare : S → D) (place : S → S) (all : S → List Splice) (statement : Statement S)
    → ((s : S) (l m : Lexed) (t : Turn S) → statement s l ≡ taken t m → MadeTurn bare place all statement l m s t)
    → (n : ℕ) (s y : S) (l m : Lexed) → statements statement n s l ≡ taken y m → AllMade bare place all statement l m s y
unfolding statements
all_made bare place all statement each zero s y l m e = absurd cc
all_made bare place all statement each (suc n) s y l m e =
    let a = bind_ok (statement s l) _ _ e in
    made_by bare place all statement n l m a.0.rest s a.0.value.state y a.0.value.more (each s l a.0.rest a.0.value a.1)
    (λ f. all_made bare place all statement each n a.0.value.state y a.0.rest m f) a.2

-- The same for a turn or a place that equals another.
pub same_turn : {S D : Type 0} (bare : S → D) (place : S → S) (all : S → List Splice) (statement : Statement S) (l n m : Lexed) (s : S) (t0 t : Turn S)
    → t0 ≡ t → n ≡ m → MadeTurn bare place all statement l n s t0 → MadeTurn bare place all statement l m s t
same_turn bare place all statement l n m s t0 t e f g = rw (sym e, sym f) g
