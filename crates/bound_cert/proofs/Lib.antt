mod LineFacts
mod ReadFacts
mod ExactFacts
mod FeedFacts
mod EndFacts
mod RangeFacts
pub mod BackFacts
pub mod OrderFacts
pub mod StreamFacts
pub mod WholeFacts
pub mod ShortFacts
pub mod SeenFacts
mod BrokenFacts
mod ItemsFacts
