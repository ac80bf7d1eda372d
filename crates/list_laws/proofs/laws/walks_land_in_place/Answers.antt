use Rattle.list_laws.proofs.ListLaws.{list_lands}
use Rattle.list_laws.proofs.laws.walks_land_in_place.Goals as goal

pub returns : goal.returns
returns c = list_lands
