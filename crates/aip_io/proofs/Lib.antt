mod LineFeeds
mod Pieces
mod Places
