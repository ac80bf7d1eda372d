-- So no such walk is too far.
use Rattle.std.specs.Prelude.{◌&&◌, ◌^◌, nat_le, Bool, true, false}
use Rattle.std.proofs.Common.{◌≡◌, ℕ, ◌+◌, ◌<◌, ◌≤◌, refl, arith}
use Rattle.std.proofs.lemmas.Bool.Decides.{nat_tests}
use Rattle.structure_laws.specs.map_history.specs.declared.op.Op.{Op}
use Rattle.structure_laws.specs.map_history.specs.Replay.{Pairs}
use Rattle.bucket_bodies.specs.section_body.specs.Bucket.{bucket_index}
use Rattle.structure_laws.specs.table_words.specs.declared.layout.Layout.{Layout}
use Rattle.structure_laws.specs.table_words.specs.Places.{slot_count}
use Rattle.structure_laws.specs.Scene.{Cells, Readings}
use Rattle.structure_laws.specs.Stand.{StandIn}
use Rattle.bucket_laws.specs.Buckets.{buckets_meaning, bounds, walk_of}
use Rattle.bucket_laws.proofs.TableLaws.{bucket_small}
use Rattle.bucket_laws.specs.Short.{BucketWalksAreShort}
use Rattle.bucket_laws.proofs.Falling.{few_read}

module _ (bits : ℕ) (low : bits ≤ 12) where
  pub walks_are_short : BucketWalksAreShort bits
  walks_are_short layout cells pairs op readings stands read =
      few_read (2 ^ bits) (λ key. bucket_index key bits) (λ key. bucket_small bits key low) (slot_count layout 0) cells pairs stands
      (bounds (2 ^ bits) (λ key. bucket_index key bits) layout) op readings read

  -- a walk that is refused, or isn't, hasn't loaded as many links as are too many
  pub not_far : (layout : Layout) (cells : Cells) (pairs : Pairs) (op : Op) (readings : Readings) (refused : Bool)
      → (buckets_meaning bits).stands layout cells pairs → StandIn (buckets_meaning bits) cells readings
      → (refused && nat_le (slot_count layout 0 + 8) (walk_of (2 ^ bits) (λ key. bucket_index key bits) layout op readings).links) ≡ false
  not_far layout cells pairs op readings refused stands read =
      by refused _ (walks_are_short layout cells pairs op readings stands read)
    where
      by : (refused : Bool) (links : ℕ) → links ≤ slot_count layout 0 + 1 → (refused && nat_le (slot_count layout 0 + 8) links) ≡ false
      by true links few = above (slot_count layout 0 + 8) links (omega (arith, few))
        where
          above : (a c : ℕ) → c < a → nat_le a c ≡ false
          above a c low = grind (arith, nat_tests)
      by false links few = refl
