use Rattle.std.proofs.Common.{◌≡◌, ℕ, ◌+◌, ◌<◌, arith, length, get_or, List, map, drop, Bor, ◌∙◌}
use Rattle.std.proofs.lemmas.List.{drop-map, drop_more}
use Rattle.typed_path.specs.components.{windows}
use Rattle.typed_path.specs.changes.{push_windows, push_all}
use Rattle.typed_path.proofs.lemmas.conversions.Crossings.{put-whole}
use Rattle.typed_path.proofs.windows.normal.push_resolved.Goals as goal

-- one more name pushed
pushed_next : (goal text next : List ℕ) (names : List (Bor (List ℕ))) (i : ℕ) (n : Bor (List ℕ)) → i < length names
    → next ≡ push_windows text (get_or names i n).now → goal ≡ push_all windows text (drop i (map (λ m. m.now) names))
    → goal ≡ push_all windows next (drop (i + 1) (map (λ m. m.now) names))
pushed_next goal text next names i n within pushed h = grind (arith, drop-map, drop_more)

pub names-preserved : goal.names-preserved
names-preserved c =
    let whole = put-whole c.args.start c.names.text.items _ _ c.names.invariant.2 (c.in_ok-known.ensures.ok c.names.invariant.4) in (
      pushed_next _ _ _ c.as_slice-name-items.result.now c.names.name-index _ c.names-test.true whole.0 c.names.invariant.0,
      whole.1 ∙ c.names.invariant.1,
      whole.2,
      omega (arith, c.in_ok-known.ensures.capacity, c.names.invariant.3),
      c.in_ok-known.ensures.known c.names.invariant.4,
    )
