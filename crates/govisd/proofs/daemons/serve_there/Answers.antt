use Rattle.std.proofs.Common.{subst}
use Rattle.govisd.specs.Says.{SaysMore}
use Rattle.govisd_words.specs.Texts.{serve_end_text}
use Rattle.govisd.proofs.SayLemmas.{said_more}
use Rattle.govisd.proofs.daemons.serve_there.Goals as goal

pub returns : goal.returns
returns g c =
    record {
      place = c.args.listening.place;
      ending = c.run_serve-end.result;
      status = c.serve_status.ensures;
      said = c.args.text.now;
      is = c.requires;
      says = said_more c.tell-is_told.result c.tell_more.result (g.E.Write.contents c.args.err.now) (g.E.Write.contents c.tell-is_told.new.err) (g.E.Write.contents c.tell_more.new.err) c.args.text.now (serve_end_text c.run_serve-end.result) c.tell-is_told.ensures (subst (λ t. SaysMore c.tell-is_told.result c.tell_more.result t (g.E.Write.contents c.tell-is_told.new.err) (g.E.Write.contents c.tell_more.new.err)) c.serve_end_text.ensures c.tell_more.ensures);
    }
