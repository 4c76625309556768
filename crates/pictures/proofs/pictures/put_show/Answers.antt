use Rattle.pictures.proofs.ShowLaws.{put-five}
use Rattle.pictures.proofs.pictures.put_show.Goals as goal

pub returns : goal.returns
returns c = put-five c.args.shows.now c.args.at c.args.slot c.requires.room c.copy_from_slice.ensures.after
