mod ReadFacts
mod UnreadFacts
