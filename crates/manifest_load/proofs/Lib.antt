mod FolderLaws
