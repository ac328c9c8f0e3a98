-- Names of texts, one after another.
use Rattle.std.proofs.Common.{◌++◌, ◌<◌, ◌≤◌, ◌+◌, ℕ, List, [], ◌∷◌, append_assoc, drop, inr, length, slice_index_or, subst, sym, ap, ◌∙◌}
use Rattle.std.proofs.lemmas.List.{append-nil, drop_all}
use Rattle.lf_task_faults.specs.declared.faults.Fault.{Fault}
use Rattle.lf_task_designs.specs.Designs.{ReadsFile}
use Rattle.lf_task_designs.proofs.DesignSteps.{Path, ahead, written}
use Rattle.lf_task_journal.specs.Names.{AddsName, AreAdded, AreNames, IsLefUnread}

-- Whatever names the rest, the names so far and those are the names of all; and a file of the rest that is not read
-- is one of all.
pub record NamesOn (gives : ReadsFile) (all rest old now : List (List ℕ)) : Type 0 where
  pub added : (names : List (List ℕ)) → AreNames gives rest names → AreAdded gives all old (now ++ names)
  pub unread : (fault : Fault) → IsLefUnread gives rest fault → IsLefUnread gives all fault

-- After one more path, the remaining ones still do.
pub names_more : (gives : ReadsFile) (old now next : List (List ℕ)) (paths : List Path) (i : ℕ) (d : Path) → i < length paths
    → NamesOn gives (written paths) (written (drop i paths)) old now → AddsName gives (slice_index_or paths i d).now now next
    → NamesOn gives (written paths) (written (drop (i + 1) paths)) old next
names_more gives old now next paths i d lt on (name, has, is) =
    let here : NamesOn gives (written paths) ((slice_index_or paths i d).now ∷ written (drop (i + 1) paths)) old now =
    subst (λ (rest : List (List ℕ)). NamesOn gives (written paths) rest old now) (ahead paths i d lt) on in
    record {
      added = λ names are. subst (λ (l : List (List ℕ)). AreAdded gives (written paths) old l)
          (sym (append_assoc now (name ∷ []) names) ∙ ap (λ (l : List (List ℕ)). l ++ names) (sym is)) (here.added (name ∷ names) (has, are));
      unread = λ fault unread. here.unread fault (inr unread);
    }

-- At the end, all names were added.
pub names_done : (gives : ReadsFile) (old now : List (List ℕ)) (paths : List Path) (i : ℕ) → length paths ≤ i
    → NamesOn gives (written paths) (written (drop i paths)) old now → AreAdded gives (written paths) old now
names_done gives old now paths i all on =
    subst (λ (l : List (List ℕ)). AreAdded gives (written paths) old l) (append-nil now)
    (on.added [] (subst (λ (rest : List Path). AreNames gives (written rest) []) (sym (drop_all i paths all)) tt))
