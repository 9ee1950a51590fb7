-- The clean text of a path without a prefix, read again; and that it is the one text of where it leads.
use Rattle.std.proofs.Common.{◌≡◌, ℕ, Bool, true, false, List, [], ◌∷◌, ◌++◌, if◌then◌else◌, refl, sym, ap, ap₂, ◌∙◌, subst, Option, Some, None}
use Rattle.std.specs.Prelude.{is_some}
use Rattle.std.specs.List.{AllByRecursion, join_with_byte}
use Rattle.std.proofs.lemmas.List.Elements.{All-head}
use Rattle.typed_path.specs.declared.scan.separators.Separators.{Separators}
use Rattle.typed_path.specs.declared.scan.separators.Separators.TheVariants.{Slash, Either}
use Rattle.typed_path.specs.components.{Dialect, unix, windows, backslash, dot, is_separator, Kind, prefix, root, current, parent, normal, Part, kinds, Found, prefix_of, parts_of}
use Rattle.typed_path.specs.queries.{first_prefix}
use Rattle.typed_path.specs.places.{kept_names, is_anchored, rising, headed, clean_by, clean_text, dots, kept_segments, own_separator, route, unheaded}
use Rattle.typed_path.specs.promises.{AreCleanAlike, IsCleanForm}
use Rattle.typed_path.proofs.lemmas.components.Segments.{IsCleanName, IsWritten, AreRead, body_parts, body_parts-read, each-written, parts_of-unix}
use Rattle.typed_path.proofs.lemmas.components.FirmPrefixes.{prefix-apart}
use Rattle.typed_path.proofs.lemmas.components.WindowsNames.{rooted-none}
use Rattle.typed_path.proofs.lemmas.components.PrefixCuts.{parts_of-none}
use Rattle.typed_path.proofs.lemmas.promises.CleanRead.{ups, Leads, leads-by, leads-lead, leads-as-lead, or_current, leads-or_current, anchored-stays, lead_of, LeadsAs, alike-lead, unmet-ups, names-ups, AreSegments, names-clean, read-segments, read-ups, read-root, read-dot}

-- what separates in a text without a prefix
abbrev pub plain : Dialect → Separators
plain unix = Slash
plain windows = Either

separator-separates : (d : Dialect) → is_separator (plain d) (own_separator d) ≡ true
separator-separates unix = refl
separator-separates windows = refl

pub parts-plain : (d : Dialect) (t : List ℕ) → prefix_of d t ≡ None → parts_of d t ≡ body_parts (plain d) t
parts-plain unix t none = parts_of-unix t
parts-plain windows t none = parts_of-none t none

-- a root or none and segments
abbrev pub plain_text : Dialect → Bool → List ℕ → List ℕ
plain_text d anchored joined = if anchored then own_separator d ∷ joined else unheaded d joined

-- a list as it is read behind the prefix: it begins with none, and its clean text
pub record HasPlainHead (d : Dialect) (ps : List Part) : Type 0 where
  pub bare : first_prefix (kinds ps) ≡ None
  pub text : (segments : List (List ℕ)) → clean_by d ps segments ≡ plain_text d (is_anchored (kinds ps)) (join_with_byte (own_separator d) segments)

plain-head : (d : Dialect) (s : Separators) (ps : List Part) → AreRead s ps → HasPlainHead d ps
plain-head d s [] read = record { bare = refl; text = λ segments. refl }
plain-head d s (p ∷ ps) read = record { bare = bare p.kind read.0; text = λ segments. text segments p.kind read.0 }
  where
    bare : (k : Kind) → IsWritten s k p.text → first_prefix (k ∷ kinds ps) ≡ None
    bare (prefix q) written = absurd written
    bare root written = refl
    bare current written = refl
    bare parent written = refl
    bare (normal name) written = refl

    text : (segments : List (List ℕ)) (k : Kind) → IsWritten s k p.text
        → clean_by d (record { kind = k; text = p.text } ∷ ps) segments ≡ plain_text d (is_anchored (k ∷ kinds ps)) (join_with_byte (own_separator d) segments)
    text segments (prefix q) written = absurd written
    text segments root written = refl
    text segments current written = refl
    text segments parent written = refl
    text segments (normal name) written = refl

module _ (d : Dialect) where
  abbrev kinds_of : List ℕ → List Kind
  kinds_of t = kinds (parts_of d t)

  -- a text without a prefix: where it leads, and its clean text
  pub head-plain : (t : List ℕ) → prefix_of d t ≡ None → HasPlainHead d (parts_of d t)
  head-plain t none = subst (HasPlainHead d) (sym (parts-plain d t none)) (plain-head d (plain d) (body_parts (plain d) t) (body_parts-read (plain d) t))

  pub route-plain : (t : List ℕ) → prefix_of d t ≡ None → route d t ≡ lead_of (kinds_of t)
  route-plain t none = ap (λ o. headed o (is_anchored (kinds_of t)) ++ ups (rising (kinds_of t)) (kept_names (kinds_of t))) (head-plain t none).bare

  abbrev clean_lead : List Kind → List ℕ
  clean_lead ks = plain_text d (is_anchored ks) (join_with_byte (own_separator d) (kept_segments (is_anchored ks) ks))

  pub clean-plain : (t : List ℕ) → prefix_of d t ≡ None → clean_text d t ≡ clean_lead (kinds_of t)
  clean-plain t none = (head-plain t none).text (kept_segments (is_anchored (kinds_of t)) (kinds_of t))

  -- the clean text of a list that leads like another is that of the other
  pub alike-clean : (t u : List ℕ) → prefix_of d t ≡ None → prefix_of d u ≡ None → LeadsAs (kinds_of t) (kinds_of u) → clean_text d t ≡ clean_text d u
  alike-clean t u none other h =
      clean-plain t none
      ∙ ap (λ a. plain_text d a (join_with_byte (own_separator d) (dots (rising (kinds_of t)) ++ kept_names (kinds_of t)))) h.anchored
      ∙ ap₂ (λ n names. plain_text d (is_anchored (kinds_of u)) (join_with_byte (own_separator d) (dots n ++ names))) h.rising h.names
      ∙ sym (clean-plain u other)

-- a text without a prefix that leads to what is given
pub record ReadsPlain (d : Dialect) (text : List ℕ) (anchored : Bool) (n : ℕ) (names : List (List ℕ)) : Type 0 where
  pub none : prefix_of d text ≡ None
  pub leads : Leads (kinds (body_parts (plain d) text)) anchored n names

-- behind a root stands no prefix
rooted-plain : (d : Dialect) (segments : List (List ℕ)) → AreSegments (plain d) segments → prefix_of d (own_separator d ∷ join_with_byte (own_separator d) segments) ≡ None
rooted-plain unix segments each = refl
rooted-plain windows [] each = refl
rooted-plain windows ([] ∷ segments) each = let one = each.0 in let filled = one.filled in cc
rooted-plain windows ((b ∷ bs) ∷ []) each = rooted-none b bs (All-head (λ c. is_separator Either c ≡ false) b bs each.0.unseparated)
rooted-plain windows ((b ∷ bs) ∷ next ∷ segments) each =
    rooted-none b (bs ++ backslash ∷ join_with_byte backslash (next ∷ segments)) (All-head (λ c. is_separator Either c ≡ false) b bs each.0.unseparated)

-- a dot and a separator are no prefix
dotted-plain : (d : Dialect) (text : List ℕ) → prefix_of d (dot ∷ own_separator d ∷ text) ≡ None
dotted-plain unix text = refl
dotted-plain windows text = prefix-apart dot backslash text refl

-- a dot is none
dot-plain : (d : Dialect) → prefix_of d (dot ∷ []) ≡ None
dot-plain unix = refl
dot-plain windows = refl

dot-current : (d : Dialect) → kinds (body_parts (plain d) (dot ∷ [])) ≡ current ∷ []
dot-current unix = refl
dot-current windows = refl

module _ (d : Dialect) (n : ℕ) (names : List (List ℕ)) (each : AllByRecursion (IsCleanName (plain d)) names) where
  abbrev joined : List ℕ
  joined = join_with_byte (own_separator d) (dots n ++ names)

  reads-root : n ≡ 0 → ReadsPlain d (own_separator d ∷ joined) true n names
  reads-root fixed = record {
    none = rooted-plain d (dots n ++ names) (read-segments (plain d) n names each);
    leads = subst (λ ks. Leads ks true n names) (sym (read-root (plain d) (own_separator d) (separator-separates d) n names each)) (leads-lead true n names (λ e. fixed));
  }

  reads-ups : prefix_of d joined ≡ None → ReadsPlain d joined false n names
  reads-ups none = record {
    none = none;
    leads = subst (λ ks. Leads ks false n names) (sym (read-ups (plain d) (own_separator d) (separator-separates d) n names each)) (leads-lead false n names (λ e. cc));
  }

  reads-dot : ReadsPlain d (dot ∷ own_separator d ∷ joined) false n names
  reads-dot = record {
    none = dotted-plain d joined;
    leads = subst (λ ks. Leads ks false n names) (sym (read-dot (plain d) (own_separator d) (separator-separates d) n names each))
        (leads-by (current ∷ ups n names) false n names refl (λ e. cc) (unmet-ups n names) (names-ups n names));
  }

  reads-nothing : joined ≡ [] → ReadsPlain d (dot ∷ []) false n names
  reads-nothing empty =
      let is : ups n names ≡ [] = sym (read-ups (plain d) (own_separator d) (separator-separates d) n names each) ∙ ap (λ t. kinds (body_parts (plain d) t)) empty in
      record {
        none = dot-plain d;
        leads = subst (λ ks. Leads ks false n names) (sym (dot-current d ∙ ap or_current (sym is))) (leads-or_current (ups n names) false n names (leads-lead false n names (λ e. cc)));
      }

  -- the text of parents and names
  reads-free : ReadsPlain d (unheaded d joined) false n names
  reads-free = by joined refl
    where
      by : (text : List ℕ) → joined ≡ text → ReadsPlain d (unheaded d text) false n names
      by [] e = reads-nothing e
      by (b ∷ bs) e = choose (prefix_of d (b ∷ bs)) refl
        where
          choose : (o : Option Found) → prefix_of d (b ∷ bs) ≡ o → ReadsPlain d (if is_some o then dot ∷ own_separator d ∷ b ∷ bs else b ∷ bs) false n names
          choose None f = subst (λ t. ReadsPlain d t false n names) e (reads-ups (ap (prefix_of d) e ∙ f))
          choose (Some p) f = subst (λ t. ReadsPlain d (dot ∷ own_separator d ∷ t) false n names) e reads-dot

  pub reads-plain : (anchored : Bool) → (anchored ≡ true → n ≡ 0) → ReadsPlain d (plain_text d anchored joined) anchored n names
  reads-plain true fixed = reads-root (fixed refl)
  reads-plain false fixed = reads-free

-- The clean text of a path without a prefix has none, leads where the path leads, and is its own clean text.

module _ (d : Dialect) (t : List ℕ) (none : prefix_of d t ≡ None) where
  reads : ReadsPlain d (clean_text d t) (is_anchored (kinds (parts_of d t))) (rising (kinds (parts_of d t))) (kept_names (kinds (parts_of d t)))
  reads =
      let own = kinds (parts_of d t) in
      let clean = subst (λ ps. AllByRecursion (IsCleanName (plain d)) (kept_names (kinds ps))) (sym (parts-plain d t none))
      (names-clean (plain d) (body_parts (plain d) t) (each-written (plain d) (body_parts (plain d) t) (body_parts-read (plain d) t))) in
      subst (λ u. ReadsPlain d u (is_anchored own) (rising own) (kept_names own)) (sym (clean-plain d t none))
      (reads-plain d (rising own) (kept_names own) clean (is_anchored own) (anchored-stays own))

  pub clean-none : prefix_of d (clean_text d t) ≡ None
  clean-none = reads.none

  pub clean-leads : LeadsAs (kinds (parts_of d (clean_text d t))) (kinds (parts_of d t))
  clean-leads = subst (λ ps. LeadsAs (kinds ps) (kinds (parts_of d t))) (sym (parts-plain d (clean_text d t) clean-none)) reads.leads

  pub plain-form : IsCleanForm d t (clean_text d t)
  plain-form = record {
    prefix = clean-none ∙ sym none;
    route = route-plain d (clean_text d t) clean-none ∙ alike-lead (kinds (parts_of d (clean_text d t))) (kinds (parts_of d t)) clean-leads ∙ sym (route-plain d t none);
    stays = alike-clean d (clean_text d t) t clean-none none clean-leads;
  }

-- Paths without a prefix that lead alike have one clean text.

-- the route of a text without a prefix tells where its list leads
pub route-tells : (d : Dialect) (t u : List ℕ) → prefix_of d t ≡ None → prefix_of d u ≡ None → route d t ≡ route d u → LeadsAs (kinds (parts_of d t)) (kinds (parts_of d u))
route-tells d t u none other e =
    let same : lead_of (kinds (parts_of d t)) ≡ lead_of (kinds (parts_of d u)) = sym (route-plain d t none) ∙ e ∙ route-plain d u other in
    let own = leads-as-lead (kinds (parts_of d t)) in
    let others = leads-as-lead (kinds (parts_of d u)) in
    record {
      anchored = sym own.anchored ∙ ap is_anchored same ∙ others.anchored;
      rising = sym own.rising ∙ ap rising same ∙ others.rising;
      names = sym own.names ∙ ap kept_names same ∙ others.names;
    }

-- two texts without a prefix have one clean text exactly if they lead alike
pub clean_alike : (d : Dialect) (t u : List ℕ) → AreCleanAlike d t u
clean_alike d t u none other = (
  (λ e. sym (plain-form d t none).route ∙ ap (route d) e ∙ (plain-form d u other).route),
  λ e. alike-clean d t u none other (route-tells d t u none other e),
)
