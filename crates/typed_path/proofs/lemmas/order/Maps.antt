-- What a map whose keys are paths has once one is put in or taken out.
use Rattle.std.proofs.Common.{◌≡◌, ◌≢◌, List, [], ◌∷◌, Bool, true, false, cond, Ordering, Less, Equal, Greater, Some, None, refl, sym, ap, ◌∙◌}
use Rattle.std.specs.Cmp.{Equal-is, eq_by_cmp_equiv}
use Rattle.std.specs.Ordering.{is_eq, match_ordering}
use Rattle.std.specs.BTreeMap.{BTreeMap, get_by, is_at, insert_entry}
use Rattle.std.specs.Map.{AreApart, lookup, remove_entry}
use Rattle.typed_path.specs.components.{Dialect, Kind, kinds, parts_of}
use Rattle.typed_path.specs.order.{path_cmp, kinds_cmp_total, exact_lists, exact_kinds}
use Rattle.typed_path.specs.order.Keyed.{to_key, PutsAt}
use Rattle.typed_path.specs.views.OwnedViews.{Owned}

module _ {K X : Type 0} (other : K → Bool) where
  -- what is put in at a key, and what is taken out, is nothing to a test that is apart from it
  lookup-insert_entry : (cmp : K → K → Ordering) (k : K) (v : X) → other k ≡ false → AreApart (is_at (cmp k)) other → (es : List (K × X)) → lookup other (insert_entry cmp es k v) ≡ lookup other es
  lookup-insert_entry cmp k v off apart [] = ap (λ b. cond b (Some v) None) off
  lookup-insert_entry cmp k v off apart (e ∷ es) = by (lookup-insert_entry cmp k v off apart es) (cmp k e.0) refl
    where
      by : lookup other (insert_entry cmp es k v) ≡ lookup other es → (o : Ordering) → cmp k e.0 ≡ o → lookup other (match_ordering o ((k, v) ∷ e ∷ es) ((e.0, v) ∷ es) (e ∷ insert_entry cmp es k v)) ≡ lookup other (e ∷ es)
      by rest Less is = ap (λ b. cond b (Some v) (lookup other (e ∷ es))) off
      by rest Equal is = let out = apart e.0 (ap is_eq is) in ap (λ b. cond b (Some v) (lookup other es)) out ∙ sym (ap (λ b. cond b (Some e.1) (lookup other es)) out)
      by rest Greater is = ap (cond (other e.0) (Some e.1)) rest

  lookup-remove_entry : (test : K → Bool) → AreApart test other → (es : List (K × X)) → lookup other (remove_entry test es) ≡ lookup other es
  lookup-remove_entry test apart [] = refl
  lookup-remove_entry test apart (e ∷ es) = by (lookup-remove_entry test apart es) (test e.0) refl
    where
      by : lookup other (remove_entry test es) ≡ lookup other es → (b : Bool) → test e.0 ≡ b → lookup other (cond b es (e ∷ remove_entry test es)) ≡ lookup other (e ∷ es)
      by rest true is = sym (ap (λ b. cond b (Some e.1) (lookup other es)) (apart e.0 is))
      by rest false is = ap (cond (other e.0) (Some e.1)) rest

-- two lists ask for two keys
asks_apart : (d : Dialect) (ks others : List Kind) → others ≢ ks → AreApart (is_at (to_key d ks)) (is_at (to_key d others))
asks_apart d ks others differ k e = no (is_at (to_key d others) k) refl
  where
    exact : (ls : List Kind) → is_at (to_key d ls) k ≡ true → ls ≡ kinds (parts_of d k.bytes)
    exact ls f = exact_lists exact_kinds ls _ ((Equal-is (to_key d ls k)).0 f)

    no : (b : Bool) → is_at (to_key d others) k ≡ b → b ≡ false
    no true f = absurd (differ (exact others f ∙ sym (exact ks e)))
    no false f = refl

module _ {X : Type 0} (d : Dialect) (key : Owned) (old new : BTreeMap Owned X) where
  -- the list of a key finds that key
  finds_itself : is_at (to_key d (kinds (parts_of d key.bytes))) key ≡ true
  finds_itself = (eq_by_cmp_equiv kinds_cmp_total).refl (kinds (parts_of d key.bytes))

  -- a value that is put in at a key is found by the list of that key, and every other list finds what it found
  pub inserted : (v : X) → get_by (λ k. path_cmp d key.bytes k.bytes) new ≡ Some v → new.entries ≡ insert_entry (λ k l. path_cmp d k.bytes l.bytes) old.entries key v → PutsAt d (kinds (parts_of d key.bytes)) (Some v) old new
  inserted v here entries = record {
    there = here;
    elsewhere = λ others differ. ap (lookup (is_at (to_key d others))) entries
        ∙ lookup-insert_entry (is_at (to_key d others)) (λ k l. path_cmp d k.bytes l.bytes) key v (asks_apart d _ others differ key finds_itself) (asks_apart d _ others differ) old.entries;
  }

  -- and so is none where a value is taken out
  pub removed : get_by (λ k. path_cmp d key.bytes k.bytes) new ≡ None → new.entries ≡ remove_entry (is_at (λ k. path_cmp d key.bytes k.bytes)) old.entries → PutsAt d (kinds (parts_of d key.bytes)) None old new
  removed here entries = record {
    there = here;
    elsewhere = λ others differ. ap (lookup (is_at (to_key d others))) entries
        ∙ lookup-remove_entry (is_at (to_key d others)) (is_at (λ k. path_cmp d key.bytes k.bytes)) (asks_apart d _ others differ) old.entries;
  }
