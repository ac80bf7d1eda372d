use Rattle.std.proofs.Common.{◌^◌, ap, ◌∙◌}
use Rattle.bucket_walks.specs.section_body.specs.Bucket.{bucket_index}
use Rattle.bucket_walks.specs.bucket_laws.specs.Walk.{fits_walk}
use Rattle.lock_walks.specs.Followed.{followed}
use Rattle.hash_table.specs.Walking.{Walking}
use Rattle.hash_table.specs.Planned.{bucket_way}
use Rattle.hash_table.proofs.Following.{in_readings}
use Rattle.hash_table.proofs.table.HashTableStructure.fits.Goals as goal

pub returns : goal.returns
returns c = c.fits.ensures ∙ ap (λ (w : Walking). fits_walk (2 ^ w.bits) (λ key. bucket_index key w.bits) w.op w.walk c.args.thunk.now)
    (c.follow-walk.ensures ∙ (ap (λ w. followed bucket_way w c.args.readings.now) c.begin.ensures ∙ in_readings _ c.args.readings.now))
