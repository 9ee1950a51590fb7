-- Bytes that were read and written, step after step.
use Rattle.std.proofs.Common.{◌≡◌, inl, inr, ℕ, List, [], ◌∷◌, ◌++◌, Bool, true, append_assoc, append-nil, take, length, refl, sym, ap, subst, ◌∙◌, Option, Some, None, Result, Ok, Err, OnOk, OnErr, IfErr, IsErrAnd, take_at}
use Rattle.std.specs.Io.KnownBytes.{Appends, Consumes, IsAtEnd}
use Rattle.typed_path.specs.declared.errors.LineError.{LineError}
use Rattle.typed_path.specs.declared.errors.LineError.TheVariants.{Write, OutOfMemory}
use Rattle.typed_path.specs.script.{answers, replies_to, complete_lines, open_line, all_lines, Streams, Ends, streams, AppendsIfTold, WritesPart, AnswersAll, StopsWriting, RunsOut}
use Rattle.typed_path.proofs.lemmas.script.Lines.{complete_lines-append, open_line-append, lines_of-open, replies_to-append}

pub Appends-nothing : (told : Option (List ℕ)) → Appends told told []
Appends-nothing None = tt
Appends-nothing (Some xs) = sym (append-nil xs)

pub Consumes-nothing : (told : Option (List ℕ)) → Consumes told told []
Consumes-nothing None = tt
Consumes-nothing (Some xs) = refl

pub Appends-more : (a b c : Option (List ℕ)) (us vs : List ℕ) → Appends a b us → Appends b c vs → Appends a c (us ++ vs)
Appends-more None b c us vs h k = tt
Appends-more (Some xs) None c us vs h k = absurd h
Appends-more (Some xs) (Some ys) None us vs h k = k
Appends-more (Some xs) (Some ys) (Some zs) us vs h k = k ∙ ap (λ t. t ++ vs) h ∙ append_assoc xs us vs

pub Consumes-more : (a b c : Option (List ℕ)) (us vs : List ℕ) → Consumes a b us → Consumes b c vs → Consumes a c (us ++ vs)
Consumes-more None b c us vs h k = tt
Consumes-more (Some xs) None c us vs h k = absurd h
Consumes-more (Some xs) (Some ys) None us vs h k = k
Consumes-more (Some xs) (Some ys) (Some zs) us vs h k = h ∙ ap (λ t. us ++ t) k ∙ sym (append_assoc us vs zs)

pub Appends-told : (a b c : Option (List ℕ)) (us vs : List ℕ) → Appends a b us → AppendsIfTold b c vs → AppendsIfTold a c (us ++ vs)
Appends-told None b c us vs h k = tt
Appends-told (Some xs) None c us vs h k = absurd h
Appends-told (Some xs) (Some ys) None us vs h k = tt
Appends-told (Some xs) (Some ys) (Some zs) us vs h k = k ∙ ap (λ t. t ++ vs) h ∙ append_assoc xs us vs

-- how far a write of all bytes has come
pub record Writes (before now : Option (List ℕ)) (bytes rest : List ℕ) : Type 0 where
  pub done : List ℕ
  pub split : bytes ≡ done ++ rest
  pub output : Appends before now done

pub Writes-step : {before now : Option (List ℕ)} {bytes rest : List ℕ} (next : Option (List ℕ)) (more behind : List ℕ) → rest ≡ more ++ behind
    → Appends now next more → Writes before now bytes rest → Writes before next bytes behind
Writes-step {before} {now} {bytes} {rest} next more behind e h w = record {
  done = w.done ++ more;
  split = w.split ∙ ap (λ t. w.done ++ t) e ∙ sym (append_assoc w.done more behind);
  output = Appends-more before now next w.done more w.output h;
}

-- how far a dialogue has come: what it read, and that the complete lines of it are answered
pub record Reads (before now : Streams) (line : List ℕ) : Type 0 where
  pub read : List ℕ
  pub input : Consumes before.input now.input read
  pub output : Appends before.output now.output (replies_to (complete_lines read))
  pub begun : line ≡ open_line read
  pub input_unfailed : now.input_failed ≡ before.input_failed
  pub output_unfailed : now.output_failed ≡ before.output_failed

pub Reads-start : (before : Streams) → Reads before before []
Reads-start before = record {
  read = [];
  input = Consumes-nothing before.input;
  output = Appends-nothing before.output;
  begun = refl;
  input_unfailed = refl;
  output_unfailed = refl;
}

-- one more read
module _ {before now : Streams} {line : List ℕ} (r : Reads before now line) where
  input_more : (next : Option (List ℕ)) (chunk : List ℕ) → Consumes now.input next chunk → Consumes before.input next (r.read ++ chunk)
  input_more next chunk h = Consumes-more before.input now.input next r.read chunk r.input h

  lines_more : (chunk : List ℕ) → complete_lines (r.read ++ chunk) ≡ complete_lines r.read ++ complete_lines (line ++ chunk)
  lines_more chunk = complete_lines-append r.read chunk ∙ ap (λ l. complete_lines r.read ++ complete_lines (l ++ chunk)) (sym r.begun)

  replies_more : (chunk : List ℕ) → replies_to (complete_lines r.read) ++ replies_to (complete_lines (line ++ chunk)) ≡ replies_to (complete_lines (r.read ++ chunk))
  replies_more chunk = sym (ap replies_to (lines_more chunk) ∙ replies_to-append (complete_lines r.read) (complete_lines (line ++ chunk)))

  -- the answers to a whole input: the replies to the lines before, and to the open line
  answers_all : replies_to (complete_lines r.read) ++ replies_to (all_lines (line ∷ [])) ≡ answers r.read
  answers_all =
      sym (ap replies_to (lines_of-open r.read) ∙ replies_to-append (complete_lines r.read) (all_lines (open_line r.read ∷ []))
      ∙ ap (λ l. replies_to (complete_lines r.read) ++ replies_to (all_lines (l ∷ []))) (sym r.begun))

  pub Reads-runs_out : (input : Option (List ℕ)) (failed : Bool) (chunk : List ℕ) → Consumes now.input input chunk → failed ≡ now.input_failed
      → RunsOut before (streams input failed now.output now.output_failed)
  Reads-runs_out input failed chunk h e = record {
    read = r.read ++ chunk;
    answered = length (complete_lines r.read);
    input = input_more input chunk h;
    output = subst (λ bs. Appends before.output now.output bs)
        (ap replies_to (sym (ap (take (length (complete_lines r.read))) (lines_more chunk) ∙ take_at (complete_lines r.read) (complete_lines (line ++ chunk)) _ refl))) r.output;
    input_unfailed = e ∙ r.input_unfailed;
    output_unfailed = r.output_unfailed;
  }

  pub Reads-step : (next : Streams) (chunk after : List ℕ) → Consumes now.input next.input chunk → Appends now.output next.output (replies_to (complete_lines (line ++ chunk)))
      → after ≡ open_line (line ++ chunk) → next.input_failed ≡ now.input_failed → next.output_failed ≡ now.output_failed → Reads before next after
  Reads-step next chunk after h k a e f = record {
    read = r.read ++ chunk;
    input = input_more next.input chunk h;
    output = subst (λ bs. Appends before.output next.output bs) (replies_more chunk) (Appends-more before.output now.output next.output _ _ r.output k);
    begun = a ∙ ap (λ l. open_line (l ++ chunk)) r.begun ∙ sym (open_line-append r.read chunk);
    input_unfailed = e ∙ r.input_unfailed;
    output_unfailed = f ∙ r.output_unfailed;
  }

  pub Reads-stops_writing : (next : Streams) (chunk : List ℕ) → Consumes now.input next.input chunk → WritesPart now.output next.output (replies_to (complete_lines (line ++ chunk)))
      → next.input_failed ≡ now.input_failed → next.output_failed ≡ true → StopsWriting before next
  Reads-stops_writing next chunk h w e f = record {
    read = r.read ++ chunk;
    written = replies_to (complete_lines r.read) ++ w.0;
    input = input_more next.input chunk h;
    output = Appends-told before.output now.output next.output _ w.0 r.output w.2;
    begun = inl (w.1.0, sym (replies_more chunk) ∙ ap (λ bs. replies_to (complete_lines r.read) ++ bs) w.1.1 ∙ sym (append_assoc (replies_to (complete_lines r.read)) w.0 w.1.0));
    input_unfailed = e ∙ r.input_unfailed;
    output_failed = f;
  }

  pub Reads-answers_all : (next : Streams) → Consumes now.input next.input [] → IsAtEnd next.input → Appends now.output next.output (replies_to (all_lines (line ∷ [])))
      → next.input_failed ≡ now.input_failed → next.output_failed ≡ now.output_failed → AnswersAll before next
  Reads-answers_all next h end k e f = record {
    read = r.read;
    input = subst (λ bs. Consumes before.input next.input bs) (append-nil r.read) (input_more next.input [] h);
    at_end = end;
    output = subst (λ bs. Appends before.output next.output bs) answers_all (Appends-more before.output now.output next.output _ _ r.output k);
    input_unfailed = e ∙ r.input_unfailed;
    output_unfailed = f ∙ r.output_unfailed;
  }

  pub Reads-stops_at_end : (next : Streams) → Consumes now.input next.input [] → IsAtEnd next.input → WritesPart now.output next.output (replies_to (all_lines (line ∷ [])))
      → next.input_failed ≡ now.input_failed → next.output_failed ≡ true → StopsWriting before next
  Reads-stops_at_end next h end w e f = record {
    read = r.read;
    written = replies_to (complete_lines r.read) ++ w.0;
    input = subst (λ bs. Consumes before.input next.input bs) (append-nil r.read) (input_more next.input [] h);
    output = Appends-told before.output now.output next.output _ w.0 r.output w.2;
    begun = inr (end, (w.1.0, sym answers_all ∙ ap (λ bs. replies_to (complete_lines r.read) ++ bs) w.1.1 ∙ sym (append_assoc (replies_to (complete_lines r.read)) w.0 w.1.0)));
    input_unfailed = e ∙ r.input_unfailed;
    output_failed = f;
  }

-- a run that ends with one error ends as that one says
module _ (before after : Streams) where
  pub ends-writing : (r : Result (Unit {0}) LineError) → IsErrAnd r (λ e. e ≡ Write) → StopsWriting before after → Ends r before after
  ends-writing (Ok x) is h = absurd is
  ends-writing (Err e) is h = subst (λ y. Ends (Err y) before after) (sym is) (record { ok = tt; read = λ f. cc; write = λ _. h; memory = λ f. cc })

  pub ends-out : (r : Result (Unit {0}) LineError) → IsErrAnd r (λ e. e ≡ OutOfMemory) → RunsOut before after → Ends r before after
  ends-out (Ok x) is h = absurd is
  ends-out (Err e) is h = subst (λ y. Ends (Err y) before after) (sym is) (record { ok = tt; read = λ f. cc; write = λ f. cc; memory = λ _. h })

  -- the last replies are written, or the writer fails
  pub ends-sent : (r : Result (Unit {0}) LineError) → IfErr r (λ e. e ≡ Write) → OnOk r (AnswersAll before after) → OnErr r (StopsWriting before after) → Ends r before after
  ends-sent (Ok x) is all part = record { ok = all; read = λ f. cc; write = λ f. cc; memory = λ f. cc }
  ends-sent (Err e) is all part = ends-writing (Err e) is part
