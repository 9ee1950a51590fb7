use Rattle.std.proofs.Common.{◌≡◌, ℕ, List, [], ◌∷◌, fold, refl, sym, ap, ◌∙◌}
use Rattle.std.specs.List.{concat}
use Rattle.std.proofs.lemmas.List.Sums.{fold-append}
use Rattle.std.specs.declared.hash.DefaultHasher.{DefaultHasher}
use Rattle.std.specs.Hash.{HashWrites}
use Rattle.std.specs.Hash.DefaultHasher as sip
use Rattle.typed_path.specs.components.{Dialect}
use Rattle.typed_path.specs.order.{key_bytes, key_words, key_writes}
use Rattle.typed_path.proofs.lemmas.order.KeyChunks.{chunked-joined}
use Rattle.typed_path_c.specs.HasherViews.{sip_hasher_of, std_hasher_of}
use Rattle.typed_path_c.specs.declared.hash.SipHasher.{SipHasher}
use Rattle.typed_path_c.proofs.hash.hash_of.Goals as goal

-- what is written to the one state is written to the other
written : (s : SipHasher) (ws : HashWrites) → std_hasher_of (fold (λ t bytes. sip_hasher_of (sip.write (std_hasher_of t) bytes)) s ws) ≡ fold sip.write (std_hasher_of s) ws
written s [] = refl
written s (w ∷ ws) = written (sip_hasher_of (sip.write (std_hasher_of s) w)) ws

-- it matters for no hash of this kind how bytes are joined to words
joined : (s : DefaultHasher) (ws : HashWrites) → fold sip.write s ws ≡ fold sip.write_byte s (concat ws)
unfolding sip.write
joined s [] = refl
joined s (w ∷ ws) = joined (fold sip.write_byte s w) ws ∙ sym (fold-append sip.write_byte s w (concat ws))

chunks-written : (s : DefaultHasher) (d : Dialect) (t : List ℕ) → fold sip.write s (key_writes d t) ≡ fold sip.write s (key_words d t)
chunks-written s d t = joined s (key_writes d t) ∙ ap (fold sip.write_byte s) (chunked-joined (key_bytes d t)) ∙ sym (joined s (key_words d t))

pub returns : goal.returns
returns g c =
    let d = g.T.Encoding.dialect in
    c.finish.ensures ∙ ap (λ s. sip.finish (std_hasher_of s)) c.hash.ensures
    ∙ ap sip.finish (written c.new-state.result (key_writes d c.new-2.result.path.bytes.now) ∙ chunks-written (std_hasher_of c.new-state.result) d c.new-2.result.path.bytes.now)
    ∙ ap (λ p. sip.finish (fold sip.write (std_hasher_of c.new-state.result) (key_words d p.bytes.now))) c.new-2.ensures
    ∙ (λ i. sip.finish (fold sip.write (std_hasher_of (c.new-state.ensures i)) (key_words d (c.new.ensures i))))
