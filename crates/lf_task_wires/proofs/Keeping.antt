-- LEF texts one after the other: kept, and read a second time.
use Rattle.std.proofs.Common.{◌≡◌, inl, inr, ℕ, ◌+◌, ◌<◌, ◌≤◌, List, [], ◌∷◌, ◌++◌, Some, Ok, length, map, drop, slice_index_or, refl, ap, sym, subst, ◌∙◌, arith}
use Rattle.std.specs.Borrow.{Bor}
use Rattle.std.proofs.Math.Numerals.{suc-eq-add-one}
use Rattle.std.proofs.Math.Seq.{drop-cons}
use Rattle.std.proofs.lemmas.Grind.{common_steps}
use Rattle.std.proofs.lemmas.List.{drop_all}
use Rattle.lf_lef.specs.Contents.{Contents}
use Rattle.lf_lef.specs.Library.{library_after}
use Rattle.lf_wire_nets.specs.declared.macros.MacroPins.{MacroPins}
use Rattle.lf_wire_nets.specs.LibraryPins.{pins_after}
use Rattle.lf_task_faults.specs.declared.faults.Fault.{Fault}
use Rattle.lf_task_faults.specs.declared.faults.TextKind.TheVariants.{Lef}
use Rattle.lf_task_designs.specs.Designs.{IsFileFault, IsLefRefusal, IsLibraryFault, IsRefusedText, ReadsFile}
use Rattle.lf_task_wires.specs.Readings.{AddPins, IsKeptLibrary, IsPinsFault, IsPinsRefusal}

abbrev Path : Type 0
Path = Bor (List ℕ)

abbrev written : List Path → List (List ℕ)
written = map (λ path. path.now)

joined : (xs : List (List ℕ)) (x : List ℕ) (ys : List (List ℕ)) → xs ++ x ∷ ys ≡ (xs ++ x ∷ []) ++ ys
joined xs x ys = grind (arith, common_steps)

nothing_more : (xs : List (List ℕ)) → xs ++ [] ≡ xs
nothing_more xs = grind (arith, common_steps)

-- The remaining paths keep their texts after those so far, and extend the present library to what
-- all paths make of the first one.
pub record KeepsOn (gives : ReadsFile) (first now : Contents) (all left kept : List (List ℕ)) : Type 0 where
  pub library : (later : List (List ℕ)) (new : Contents) → IsKeptLibrary gives now left later new → IsKeptLibrary gives first all (kept ++ later) new
  pub fault : (fault : Fault) → IsLibraryFault gives now left fault → IsLibraryFault gives first all fault

pub keeps_first : (gives : ReadsFile) (first : Contents) (all kept : List (List ℕ)) → kept ≡ [] → KeepsOn gives first first all all kept
keeps_first gives first all kept none = rw none record {
  library = λ later new is. is;
  fault = λ fault is. is;
}

-- The paths from a position on are that path and the later ones.
ahead : (paths : List Path) (i : ℕ) (d : Path) → i < length paths → written (drop i paths) ≡ (slice_index_or paths i d).now ∷ written (drop (i + 1) paths)
ahead paths i d lt = ap written (drop-cons paths i d lt ∙ ap (λ n. slice_index_or paths i d ∷ drop n paths) (suc-eq-add-one i))

pub one_kept : (gives : ReadsFile) (first now next : Contents) (paths : List Path) (kept : List (List ℕ)) (i : ℕ) (d : Path) (text : List ℕ) → i < length paths
    → KeepsOn gives first now (written paths) (written (drop i paths)) kept → gives (slice_index_or paths i d).now (Some text) → library_after now text ≡ Ok next
    → KeepsOn gives first next (written paths) (written (drop (i + 1) paths)) (kept ++ text ∷ [])
one_kept gives first now next paths kept i d text lt on given read =
    let here : KeepsOn gives first now (written paths) ((slice_index_or paths i d).now ∷ written (drop (i + 1) paths)) kept =
    subst (λ (left : List (List ℕ)). KeepsOn gives first now (written paths) left kept) (ahead paths i d lt) on in
    record {
      library = λ later new rest. subst (λ (texts : List (List ℕ)). IsKeptLibrary gives first (written paths) texts new) (joined kept text later)
          (here.library (text ∷ later) new (text, later, next, refl, given, read, rest));
      fault = λ fault rest. here.fault fault (inr (next, record { text = text; given = given; read = read }, rest));
    }

pub kept_fault : (gives : ReadsFile) (first now : Contents) (paths : List Path) (kept : List (List ℕ)) (i : ℕ) (d : Path) (fault : Fault) → i < length paths
    → KeepsOn gives first now (written paths) (written (drop i paths)) kept → IsFileFault gives Lef (slice_index_or paths i d).now (IsLefRefusal now) fault
    → IsLibraryFault gives first (written paths) fault
kept_fault gives first now paths kept i d fault lt on is =
    let here : KeepsOn gives first now (written paths) ((slice_index_or paths i d).now ∷ written (drop (i + 1) paths)) kept =
    subst (λ (left : List (List ℕ)). KeepsOn gives first now (written paths) left kept) (ahead paths i d lt) on in
    here.fault fault (inl is)

pub all_kept : (gives : ReadsFile) (first now : Contents) (paths : List Path) (kept : List (List ℕ)) (i : ℕ) → length paths ≤ i
    → KeepsOn gives first now (written paths) (written (drop i paths)) kept → IsKeptLibrary gives first (written paths) kept now
all_kept gives first now paths kept i past on =
    let here : KeepsOn gives first now (written paths) [] kept =
    subst (λ (left : List Path). KeepsOn gives first now (written paths) (written left) kept) (drop_all i paths past) on in
    subst (λ (texts : List (List ℕ)). IsKeptLibrary gives first (written paths) texts now) (nothing_more kept) (here.library [] now (refl, refl))

-- As many texts are kept as there are paths.
pub kept_many : (gives : ReadsFile) (old new : Contents) (paths texts : List (List ℕ)) → IsKeptLibrary gives old paths texts new → length texts ≤ length paths
kept_many gives old new [] texts is = rw is.0 (omega arith)
kept_many gives old new (path ∷ paths) texts is =
    let later = kept_many gives is.2 new paths is.1 is.6 in
    rw is.3 (omega arith)

-- ---- a second reading

-- The remaining texts, of these paths, go on from the present macros to what all texts make of the first ones.
pub record ReadsOn (first now : List MacroPins) (all_paths all paths left : List (List ℕ)) : Type 0 where
  pub pins : (new : List MacroPins) → AddPins now left new → AddPins first all new
  pub fault : (fault : Fault) → IsPinsFault now paths left fault → IsPinsFault first all_paths all fault

pub reads_first : (first : List MacroPins) (paths texts : List (List ℕ)) → ReadsOn first first paths texts paths texts
reads_first first paths texts = record {
  pins = λ new is. is;
  fault = λ fault is. is;
}

-- The texts from a position on are that text and the later ones.
ahead_of : {X : Type 0} (f : X → List ℕ) (texts : List X) (i : ℕ) (d : X) → i < length texts → map f (drop i texts) ≡ f (slice_index_or texts i d) ∷ map f (drop (i + 1) texts)
ahead_of f texts i d lt = ap (map f) (drop-cons texts i d lt ∙ ap (λ n. slice_index_or texts i d ∷ drop n texts) (suc-eq-add-one i))

here_of : {X : Type 0} (f : X → List ℕ) (first now : List MacroPins) (paths : List Path) (texts : List X) (i : ℕ) (d : Path) (text : X) → i < length paths → i < length texts
    → text ≡ slice_index_or texts i text → ReadsOn first now (written paths) (map f texts) (written (drop i paths)) (map f (drop i texts))
    → ReadsOn first now (written paths) (map f texts) ((slice_index_or paths i d).now ∷ written (drop (i + 1) paths)) (f text ∷ map f (drop (i + 1) texts))
here_of f first now paths texts i d text in_paths in_texts is on =
    subst (λ (left : List (List ℕ)). ReadsOn first now (written paths) (map f texts) ((slice_index_or paths i d).now ∷ written (drop (i + 1) paths)) left)
    (ahead_of f texts i text in_texts ∙ ap (λ one. f one ∷ map f (drop (i + 1) texts)) (sym is))
    (subst (λ (left : List (List ℕ)). ReadsOn first now (written paths) (map f texts) left (map f (drop i texts))) (ahead paths i d in_paths) on)

pub one_read : {X : Type 0} (f : X → List ℕ) (first now next : List MacroPins) (paths : List Path) (texts : List X) (i : ℕ) (d : Path) (text : X) → i < length paths → i < length texts
    → text ≡ slice_index_or texts i text → ReadsOn first now (written paths) (map f texts) (written (drop i paths)) (map f (drop i texts)) → pins_after now (f text) ≡ Ok next
    → ReadsOn first next (written paths) (map f texts) (written (drop (i + 1) paths)) (map f (drop (i + 1) texts))
one_read f first now next paths texts i d text in_paths in_texts is on read =
    let here = here_of f first now paths texts i d text in_paths in_texts is on in
    record {
      pins = λ new rest. here.pins new (next, read, rest);
      fault = λ fault rest. here.fault fault (inr (next, read, rest));
    }

pub read_fault : {X : Type 0} (f : X → List ℕ) (first now : List MacroPins) (paths : List Path) (texts : List X) (i : ℕ) (d : Path) (text : X) (fault : Fault) → i < length paths → i < length texts
    → text ≡ slice_index_or texts i text → ReadsOn first now (written paths) (map f texts) (written (drop i paths)) (map f (drop i texts))
    → IsRefusedText Lef (slice_index_or paths i d).now (f text) (IsPinsRefusal now (f text)) fault
    → IsPinsFault first (written paths) (map f texts) fault
read_fault f first now paths texts i d text fault in_paths in_texts is on refused = (here_of f first now paths texts i d text in_paths in_texts is on).fault fault (inl refused)

pub all_read : {X : Type 0} (f : X → List ℕ) (first now : List MacroPins) (paths : List (List ℕ)) (texts : List X) (left : List (List ℕ)) (i : ℕ) → length texts ≤ i
    → ReadsOn first now paths (map f texts) left (map f (drop i texts)) → AddPins first (map f texts) now
all_read {X = X} f first now paths texts left i past on =
    let here : ReadsOn first now paths (map f texts) left [] =
    subst (λ (rest : List X). ReadsOn first now paths (map f texts) left (map f rest)) (drop_all i texts past) on in
    here.pins now refl
